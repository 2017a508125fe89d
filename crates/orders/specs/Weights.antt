-- What a weight holds.
use Rattle.std.specs.Prelude.{◌≡◌, ℕ, ◌<◌, slice_index_or}
use Rattle.terms.specs.Term.{Term}
use Rattle.orders.specs.declared.weight.Weight.{Weight}
use Rattle.orders.specs.Linear.{Linear, constant, coefficient}

-- the coefficient that a weight has for a variable, 0 past the eighth
abbrev pub coefficient_in : Weight → ℕ → ℕ
coefficient_in w x = slice_index_or w.coefficients x 0

-- a weight has the constant of a term, and its coefficients of the eight variables
pub record Weighs (m : Linear) (t : Term) (w : Weight) : Type 0 where
  pub constants : w.constant ≡ constant m t
  pub coefficients : (x : ℕ) → x < 8 → coefficient_in w x ≡ coefficient m x t
