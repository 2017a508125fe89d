-- What is read of the rules.
use Rattle.std.specs.Prelude.{◌≡◌, ℕ, suc, ◌<◌, false, List, [], ◌∷◌, ◌++◌, length}
use Rattle.terms.specs.Term.{Term}
use Rattle.terms.specs.Rule.{Rule}
use Rattle.terms.specs.Signature.{Sig}
use Rattle.terms.specs.Substitution.{occurrences}
use Rattle.terms.specs.Layout.{LaysOut}
use Rattle.lexer.specs.declared.token.Lexer.{Lexer}
use Rattle.reading.specs.declared.token.Mark.{Mark}
use Rattle.reading.specs.declared.token.Mark.TheVariants.{Equals, LineEnd}
use Rattle.reading.specs.Reading.{top, wants}
use Rattle.sheet.specs.declared.Sheet.{Sheet as Stored}
use Rattle.sheet.specs.Sheet.{operators_of, rules_of, is_admitted}
use Rattle.sheet_reading.specs.Values.{Grid}
use Rattle.sheet_reading.specs.Sheet.{Sheet}
use Rattle.sheet_reading.specs.Sides.{Hand as Side, on_left, on_right}
use Rattle.sheet_reading.specs.Reading.{Stand, in_rule, behind_side}
use Rattle.sheet_reader.specs.declared.rules.Sides.{Sides}
use Rattle.sheet_reader.specs.declared.side.SideReader.{SideReader}
use Rattle.sheet_reader.specs.Progress.{Reached}
use Rattle.sheet_reader.specs.Sides.{Around, Marked}

-- behind some rules, where another may begin
abbrev pub next_rule : Sig → Grid → List Rule → Stand
next_rule sig grid rules = in_rule sig grid rules on_left (wants top)

-- behind the rules of a stored sheet
abbrev pub behind_rules : Stored → Grid → Stand
behind_rules sheet grid = next_rule (operators_of sheet) grid (rules_of sheet)

-- a stored sheet with the lines of values
abbrev pub sheet_with : Stored → Grid → Sheet
sheet_with sheet grid = record { operators = operators_of sheet; values = grid; rules = rules_of sheet }

-- there is one rule more, and there was room for it; the sheet is not admitted
pub record AddsRule (before after : Stored) : Type 0 where
  pub room : length (rules_of before) < 32
  pub one_more : length (rules_of after) ≡ suc (length (rules_of before))
  pub unjudged : is_admitted after ≡ false

-- the mark behind a side
abbrev pub end_mark : Side → Mark
end_mark on_left = Equals
end_mark (on_right l) = LineEnd

-- where a side begins
abbrev pub outermost : Sig → Grid → List Rule → Side → Around
outermost sig grid rules d = record { operators = sig; values = grid; rules = rules; hand = d; context = top }

-- a whole side was read, and the mark behind it
pub record ReadsSide (b : List ℕ) (before : SideReader) (i : Around) (r : SideReader) (l : Lexer) : Type 0 where
  pub side : Term
  pub goes_on : Reached b (behind_side i.operators i.values i.rules i.hand side) l
  pub nodes : LaysOut r.nodes side
  pub signature : r.signature ≡ before.signature
  pub marked : Marked r.variables i.hand (λ x. occurrences x side)

-- a rule was read: its sides are laid out, and the lexer is behind its line
pub record ReadsRule (b : List ℕ) (sig : Sig) (grid : Grid) (before : List Rule) (sides : Sides) (l : Lexer) : Type 0 where
  pub rule : Rule
  pub goes_on : Reached b (next_rule sig grid (before ++ rule ∷ [])) l
  pub left_laid : LaysOut sides.left rule.left
  pub right_laid : LaysOut sides.right rule.right
