-- Sheets: operators, the values of one or two weighings, and rules; and their text.
use Rattle.std.specs.Prelude.{◌≡◌, ℕ, ◌≤◌, ◌⊎◌, List, [], ◌∷◌, ◌++◌, length, codes}
use Rattle.std.specs.List.{AllByRecursion}
use Rattle.terms.specs.Term.{Term, symbols}
use Rattle.terms.specs.Rule.{Rule, RuleOf, levels}
use Rattle.terms.specs.Signature.{Sig, Declared}
use Rattle.terms.specs.Text.{text_of}
use Rattle.reading.specs.Heading.{heading_text}
use Rattle.sheet_reading.specs.Values.{Grid, GridIn, grid_text}

pub record Sheet : Type 0 where
  pub operators : Sig
  pub values : Grid
  pub rules : List Rule

-- what a sheet says, its size aside: operators, four lines of values or eight, and rules over the operators
pub record SheetShaped (s : Sheet) : Type 0 where
  pub declared : Declared s.operators
  pub some_operators : 1 ≤ length s.operators
  pub one_or_two : (length s.values ≡ 4) ⊎ (length s.values ≡ 8)
  pub in_range : GridIn 0 s.operators s.values
  pub lawful : AllByRecursion (RuleOf s.operators) s.rules

-- how many operators and rules a sheet may have, and how many symbols and levels a side
pub record Limits : Type 0 where
  pub operators : ℕ
  pub rules : ℕ
  pub symbols : ℕ
  pub levels : ℕ

abbrev pub limits : Limits
limits = record { operators = 32; rules = 32; symbols = 32; levels = 16 }

abbrev pub SideWithin : Limits → Term → Type 0
SideWithin m t = (symbols t ≤ m.symbols) × (levels t ≤ m.levels)

-- a sheet within limits
pub record SheetWithin (m : Limits) (s : Sheet) : Type 0 where
  pub few_operators : length s.operators ≤ m.operators
  pub few_rules : length s.rules ≤ m.rules
  pub small_sides : AllByRecursion (λ r. SideWithin m r.left × SideWithin m r.right) s.rules

abbrev pub rule_text : Sig → Rule → List ℕ
rule_text sig r = text_of sig r.left ++ (61 ∷ (text_of sig r.right ++ (10 ∷ [])))

abbrev pub rules_text : Sig → List Rule → List ℕ
rules_text sig [] = []
rules_text sig (r ∷ rs) = rule_text sig r ++ rules_text sig rs

-- names and counts, the lines of values, the line 'rules', and a line for each rule
abbrev pub sheet_text : Sheet → List ℕ
sheet_text s = heading_text s.operators ++ (grid_text s.values ++ (codes "rules" ++ (10 ∷ rules_text s.operators s.rules)))
