-- What adding up weights and comparing them needs and answers, in this crate alone.
use Rattle.std.specs.Prelude.{◌≡◌, ℕ, ◌+◌, ◌*◌, ◌^◌, ◌<◌, ◌≤◌}
use Rattle.orders.specs.declared.weight.Weight.{Weight}
use Rattle.orders.specs.Weights.{coefficient_in}

-- a weight and another one so many times can be added up
pub record AddsUp (w : Weight) (factor : ℕ) (other : Weight) : Type 0 where
  pub constants : w.constant + factor * other.constant < 2 ^ 64
  pub coefficients : (x : ℕ) → x < 8 → coefficient_in w x + factor * coefficient_in other x < 2 ^ 64

-- and that is what comes of it
pub record Sums (w : Weight) (factor : ℕ) (other sum : Weight) : Type 0 where
  pub constants : sum.constant ≡ w.constant + factor * other.constant
  pub coefficients : (x : ℕ) → x < 8 → coefficient_in sum x ≡ coefficient_in w x + factor * coefficient_in other x

-- nothing in another weight is larger
pub record AtLeast (w other : Weight) : Type 0 where
  pub coefficients : (x : ℕ) → x < 8 → coefficient_in other x ≤ coefficient_in w x
  pub constants : other.constant ≤ w.constant
