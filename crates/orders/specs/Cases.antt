-- Worked cases: weights, constants and coefficients, and which rules of some sheets are oriented.
use Rattle.std.specs.Prelude.{◌≡◌, ℕ, List, [], ◌∷◌, ◌++◌, Some, None}
use Rattle.terms.specs.Term.{Term, instrument, apply, nil, cons}
use Rattle.terms.specs.Rule.{Rule}
use Rattle.rewriting.specs.Rules.{rule_at}
use Rattle.rewriting.specs.Order.{AllIn}
use Rattle.sheet_reading.specs.Values.{Value, Grid}
use Rattle.sheet_reading.specs.Cases.{house_values, house_rules, neg, both, A, B}
use Rattle.orders.specs.Linear.{Linear, linear_in, weight, constant, coefficient, WeaklyOriented, StrictlyOriented}
use Rattle.orders.specs.Default.{DefaultStrict, DefaultWeak}

-- of a sheet's two weighings the first begins in line 0, and the second in line 4; where it is missing every base is 0 and every factor 1
abbrev pub first : Grid → Linear
first grid = linear_in grid 0

abbrev pub second : Grid → Linear
second grid = linear_in grid 4

abbrev pub Strict : Grid → Rule → Type 0
Strict grid = DefaultStrict (first grid) (second grid)

-- the house sheet: nil, neg and both have bases 1, 1 and 3, neg the factor 2, both the factors 2 and 1
abbrev pub house : Linear
house = first house_values

-- both(A,B)=both(B,A)
abbrev pub exchange : Rule
exchange = record { left = both A B; right = both B A }

-- p(A)=q(A) and q(q(A))=p(A)

abbrev pub p : Term → Term
p t = apply 0 (cons t nil)

abbrev pub q : Term → Term
q t = apply 1 (cons t nil)

abbrev pub shifting_rules : List Rule
shifting_rules = record { left = p A; right = q A } ∷ record { left = q (q A); right = p A } ∷ []

-- four lines for p and q with these bases, and the factor 1
abbrev pub unary : ℕ → ℕ → Grid
unary b c = (Some b ∷ Some c ∷ []) ∷ (Some 1 ∷ Some 1 ∷ []) ∷ (None ∷ None ∷ []) ∷ (None ∷ None ∷ []) ∷ []

-- a=b and a=c, for names without arguments of bases 3, 2 and 1

abbrev pub name : ℕ → Term
name f = apply f nil

abbrev pub falling_rules : List Rule
falling_rules = record { left = name 0; right = name 1 } ∷ record { left = name 0; right = name 2 } ∷ []

abbrev pub dashes : List Value
dashes = None ∷ None ∷ None ∷ []

abbrev pub names : Grid
names = (Some 3 ∷ Some 2 ∷ Some 1 ∷ []) ∷ dashes ∷ dashes ∷ dashes ∷ []

pub record Worked : Type 0 where
  -- neg(both(#7,neg(#9))) weighs 1 + 2 * (3 + 2 * 0 + (1 + 2 * 0))
  pub a_weight : weight house (neg (both (instrument 7) (neg (instrument 9)))) ≡ 9
  -- neg(both(A,B)) is 7 and 4 times A and 2 times B; both(neg(A),neg(B)) is 6 and as many times
  pub a_constant : constant house (neg (both A B)) ≡ 7
  pub its_first_coefficient : coefficient house 0 (neg (both A B)) ≡ 4
  pub its_second_coefficient : coefficient house 1 (neg (both A B)) ≡ 2
  pub its_third_coefficient : coefficient house 2 (neg (both A B)) ≡ 0
  pub the_constant_after : constant house (both (neg A) (neg B)) ≡ 6
  -- all six rules of the house sheet are oriented strictly by its one weighing
  pub house_rules_fall : AllIn (StrictlyOriented house) house_rules
  -- and with a seventh, that rule is not, and not weakly either
  pub seventh_does_not_fall : StrictlyOriented house (rule_at (house_rules ++ exchange ∷ []) 6) → ⊥
  pub seventh_does_not_hold : WeaklyOriented house (rule_at (house_rules ++ exchange ∷ []) 6) → ⊥
  pub nor_by_the_pair : Strict house_values (rule_at (house_rules ++ exchange ∷ []) 6) → ⊥
  -- with bases 1 and 1, then 2 and 1
  pub both_shift : AllIn (Strict (unary 1 1 ++ unary 2 1)) shifting_rules
  -- without the second weighing rule 0 only holds
  pub first_does_not_fall : Strict (unary 1 1) (rule_at shifting_rules 0) → ⊥
  pub first_holds : DefaultWeak (first (unary 1 1)) (second (unary 1 1)) (rule_at shifting_rules 0)
  pub second_falls : Strict (unary 1 1) (rule_at shifting_rules 1)
  -- names alone
  pub names_fall : AllIn (Strict names) falling_rules
