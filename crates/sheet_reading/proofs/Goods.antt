-- Which stands are reached, and what is said of one token more.
use Rattle.std.proofs.Common.{◌≡◌, ◌<◌, ◌≤◌, List, [], ◌∷◌, ◌++◌, length, Some, Ok, Err}
use Rattle.terms.specs.Rule.{Rule}
use Rattle.terms.specs.Signature.{Sig}
use Rattle.reading.specs.Tokens.{Tok}
use Rattle.reading.specs.Reading.{top, State, wants}
use Rattle.sheet_reading.specs.Values.{Value, Grid, GridIn}
use Rattle.sheet_reading.specs.Sheet.{SheetShaped, limits, SideWithin, SheetWithin}
use Rattle.sheet_reading.specs.Sides.{Hand, on_left, on_right}
use Rattle.sheet_reading.specs.Reading.{Stand, in_heading, wants_value, has_value, has_word, in_rule, Move}
use Rattle.sheet_reading.proofs.SideFacts.{LeftShaped}
use Rattle.sheet_reading.proofs.SideStates.{Good as SideGood}
use Rattle.sheet_reading.proofs.Stands.{sheet_of, before_side, stand_tokens}
use Rattle.sheet_reading.proofs.Causes.{Cause}
use Rattle.sheet_reading.proofs.Ranges.{LinePart}
use Rattle.reading.proofs.Heads.{Operators, HeadGood}

-- the lines of values so far, and the first values of the next one
pub record Valued (sig : Sig) (grid : Grid) (vs : List Value) : Type 0 where
  pub operators : Operators 32 sig
  pub some : 1 ≤ length sig
  pub in_range : GridIn 0 sig grid
  pub so_far : LinePart (length grid) sig vs
  pub at_most : length grid ≤ 8
  pub not_last : 1 ≤ length vs → length grid < 8

abbrev pub HandGood : Sig → Hand → Type 0
HandGood sig on_left = Unit {0}
HandGood sig (on_right l) = LeftShaped sig l × SideWithin limits l

-- in a rule; past the last rule none begins
pub record Ruled (sig : Sig) (grid : Grid) (rules : List Rule) (d : Hand) (s : State) : Type 0 where
  pub shaped : SheetShaped (sheet_of sig grid rules)
  pub within : SheetWithin limits (sheet_of sig grid rules)
  pub hand : HandGood sig d
  pub side : SideGood sig limits (before_side sig grid rules d) d s
  pub last : length rules ≡ 32 → (d ≡ on_left) × (s ≡ wants top)

abbrev pub Good : Stand → Type 0
Good (in_heading h) = HeadGood 32 h
Good (wants_value sig grid vs) = Valued sig grid vs × (length vs < length sig)
Good (has_value sig grid vs) = Valued sig grid vs × (1 ≤ length vs)
Good (has_word sig grid) = SheetShaped (sheet_of sig grid []) × SheetWithin limits (sheet_of sig grid [])
Good (in_rule sig grid rules d s) = Ruled sig grid rules d s

-- a token that is accepted is one more of the tokens read; one that is refused has its cause
abbrev pub Said : Stand → Tok → Move → Type 0
Said s k (Ok u) = Good u × (stand_tokens u ≡ stand_tokens s ++ (k ∷ []))
Said s k (Err f) = Cause (stand_tokens s) (Some k) f
