-- A whole text read.
use Rattle.std.proofs.Common.{◌≡◌, ℕ, ◌<◌, ◌≤◌, List, [], length, false, Ok, Err, Result, refl, sym, ap, ◌∙◌, subst}
use Rattle.std.proofs.lemmas.Bool.{cond-true, cond-false, le-leb, lt-leb}
use Rattle.terms.specs.Signature.{Sig}
use Rattle.lexer.specs.declared.token.Lexer.{Lexer}
use Rattle.reading.specs.declared.fault.TextFault.TheVariants.{PastLimit}
use Rattle.reading.specs.declared.fault.SheetFault.{SheetFault}
use Rattle.reading.specs.declared.fault.SheetFault.TheVariants.{Text}
use Rattle.reading.specs.Tokens.{origin}
use Rattle.reading.specs.Heading.{sheet_limit}
use Rattle.sheet.specs.declared.Sheet.{Sheet as Stored}
use Rattle.std.specs.Result.{IsErrAnd}
use Rattle.weighing.specs.declared.Weighing.{Weighing}
use Rattle.sheet.specs.Sheet.{rules_of, is_admitted, Bare}
use Rattle.sheet_reading.specs.Values.{Grid}
use Rattle.sheet_reading.specs.Sheet.{Sheet}
use Rattle.sheet_reading.specs.Reading.{read_sheet}
use Rattle.sheet_reader.specs.Progress.{Reached, Goes, outcome}
use Rattle.sheet_reader.specs.Weighings.{Weighs}
use Rattle.sheet_reader.specs.Reading.{FillsSheet}
use Rattle.sheet_reader.specs.Rules.{next_rule, behind_rules, sheet_with}

-- a stored sheet without rules, where the rules begin
pub begun : (b : List ℕ) (sig : Sig) (grid : Grid) (sheet : Stored) (l : Lexer) → Bare sig sheet → Reached b (next_rule sig grid []) l → Reached b (behind_rules sheet grid) l
begun b sig grid sheet l e r = subst (λ s. Reached b (next_rule s grid (rules_of sheet)) l) (sym e.operators) (subst (λ rs. Reached b (next_rule sig grid rs) l) (sym e.rules) r)

module _ (b : List ℕ) where
  -- a text that is not too long is read as it comes out
  pub as_read : (o : Result Sheet SheetFault) → length b ≤ 32768 → outcome b ≡ o → read_sheet b ≡ o
  unfolding read_sheet sheet_limit
  as_read o few e = cond-true _ _ _ (le-leb (length b) 32768 few) ∙ e

  -- and one that is too long is refused for that
  pub too_long : (f : SheetFault) → 32768 < length b → f ≡ Text (PastLimit origin) → read_sheet b ≡ Err f
  unfolding read_sheet sheet_limit
  too_long f many e = cond-false _ _ _ (lt-leb (length b) 32768 many) ∙ ap Err (sym e)

  -- a fault on the way is the text's
  pub refused_for : {A : Type 0} (few : length b ≤ 32768) (q : Result A SheetFault) (r : Result (Unit {0}) SheetFault) (f : SheetFault) (On : A → Type 0) (sheet : Stored) (first second : Weighing)
      → Goes b q On → q ≡ Err f → IsErrAnd r (λ e. e ≡ f) → FillsSheet r (read_sheet b) sheet first second
  refused_for few q (Ok u) f On sheet first second g e h = absurd h
  refused_for few q (Err k) f On sheet first second g e h = as_read (Err k) few (subst (λ z. Goes b z On) e g ∙ ap Err (sym h))

  -- the rules were read to the end of the text
  pub filled : (few : length b ≤ 32768) (r : Result (Unit {0}) SheetFault) (grid : Grid) (sheet : Stored) (first second : Weighing) → Weighs first grid 0 → Weighs second grid 4
      → Goes b r (λ _. (outcome b ≡ Ok (sheet_with sheet grid)) × (is_admitted sheet ≡ false)) → FillsSheet r (read_sheet b) sheet first second
  filled few (Ok u) grid sheet first second x y (e, q) =
      (sheet_with sheet grid, as_read (Ok (sheet_with sheet grid)) few e, record { operators = refl; rules = refl; unjudged = q; values = x; further_values = y })
  filled few (Err f) grid sheet first second x y e = as_read (Err f) few e
