-- How large the values of small terms are.
use Rattle.std.proofs.Common.{◌≡◌, ℕ, zero, suc, ◌*◌, ◌≤◌, arith}
use Rattle.std.proofs.Math.Nat.{add-mul, mul-le-mul_right, mul_assoc, mul_comm}
use Rattle.terms.specs.Term.{Term, variable, instrument, apply, Terms, nil, cons, symbols, symbols_in}
use Rattle.terms.specs.Rule.{levels, levels_in}
use Rattle.orders.specs.Linear.{Linear, value, values}

-- the most that one symbol adds, so many levels deep
abbrev pub cap : ℕ → ℕ
cap zero = 100
cap (suc n) = 4 * cap n

cap_least : (n : ℕ) → 100 ≤ cap n
cap_least zero = omega arith
cap_least (suc n) = omega (arith, cap_least n)

-- no base is more than 100 and no factor more than 4
pub record Small (m : Linear) : Type 0 where
  pub bases : (f : ℕ) → m.base f ≤ 100
  pub factors : (f k : ℕ) → m.factor f k ≤ 4

module _ (m : Linear) (small : Small m) (of : ℕ → ℕ) (low : (x : ℕ) → of x ≤ 100) where
  mutual
    pub value_within : (n : ℕ) (t : Term) → levels t ≤ n → value m of t ≤ symbols t * cap n
    value_within n (variable x) h = omega (arith, low x, cap_least n)
    value_within n (instrument k) h = omega arith
    value_within zero (apply f ts) h = absurd (omega arith)
    value_within (suc n) (apply f ts) h =
        omega (arith, small.bases f, values_within n f 0 ts (omega arith), cap_least (suc n), add-mul 1 (symbols_in ts) (cap (suc n)))

    pub values_within : (n f k : ℕ) (ts : Terms) → levels_in ts ≤ n → values m of f k ts ≤ symbols_in ts * cap (suc n)
    values_within n f k nil h = omega arith
    values_within n f k (cons t ts) h =
        let first : value m of t ≤ symbols t * cap n = value_within n t (omega arith) in
        let times : m.factor f k * value m of t ≤ 4 * value m of t = mul-le-mul_right (value m of t) (small.factors f k) in
        let moved : symbols t * cap (suc n) ≡ 4 * (symbols t * cap n) = grind (arith, mul_assoc, mul_comm) in
        omega (arith, first, times, moved, values_within n f (suc k) ts (omega arith), add-mul (symbols t) (symbols_in ts) (cap (suc n)))
