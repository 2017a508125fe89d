-- Proofs and no definitions: a linear interpretation with no factor 0 keeps the laws of an order.
use Rattle.std.proofs.Common.{◌≡◌, List, map, Option, Some, None, get_or, ℕ, zero, suc, [], ◌∷◌, ◌+◌, ◌*◌, ◌<◌, ◌≤◌, eqb, refl, ap, inl, inr, arith}
use Rattle.std.proofs.lemmas.Bool.{cases_eq, cond-true, cond-false, eq-eqb, ne_eqb}
use Rattle.std.proofs.Math.Nat.{add-mul, mul-add, mul_assoc, suc-mul, mul-le-mul_left, mul-le-mul_right}
use Rattle.std.proofs.Math.Option.{none, some}
use Rattle.terms.specs.Term.{Term, variable, instrument, apply, Terms, nil, cons}
use Rattle.terms.specs.Signature.{Sig}
use Rattle.terms.specs.Ticket.{TermOf, TermsOf, Ticket}
use Rattle.terms.specs.Substitution.{Substitution, fill, fill_all}
use Rattle.terms.specs.Position.{Position, part_at, part_in, put_at, put_in}
use Rattle.sheet_reading.specs.Values.{Value, neutral_in}
use Rattle.rewriting.specs.Order.{OrderLaws}
use Rattle.weighing.specs.Weighing.{written, entry_of, value_at, times}
use Rattle.weighing.specs.declared.Row.{Row}
use Rattle.weighing.specs.declared.Weighing.{Weighing}
use Rattle.weighing.specs.declared.bounded.Bounded.{Bounded}
use Rattle.orders.specs.Linear.{base_in, linear_of, Linear, value, values, weight, constant, coefficient, one_at, baseless, Heavier, AsHeavy, WeaklyOriented, StrictlyOriented}

none_some : {a : Term} → none ≡ some a → ⊥
none_some e = cc

-- what is so much less stays so under a factor
scaled : (d a b f : ℕ) → 1 ≤ f → d + b ≤ a → d + f * b ≤ f * a
scaled d a b zero pos h = absurd (omega arith)
scaled d a b (suc f) pos h = let le : f * b ≤ f * a = mul-le-mul_left f (omega arith) in omega (arith, le, suc-mul f a, suc-mul f b)

module _ (m : Linear) (positive : (f k : ℕ) → 1 ≤ m.factor f k) (of : ℕ → ℕ) (d : ℕ) where
  -- a part is changed for one that is worth so much less
  mutual
    pub put_less : (t : Term) (p : Position) (a b : Term) → part_at t p ≡ some a → d + value m of b ≤ value m of a → d + value m of (put_at t p b) ≤ value m of t
    put_less (variable x) [] a b e h = let q : value m of (variable x) ≡ value m of a = ap (value m of) (let r : variable x ≡ a = cc in r) in omega (arith, q)
    put_less (variable x) (k ∷ p) a b e h = absurd (none_some e)
    put_less (instrument n) [] a b e h = let q : value m of (instrument n) ≡ value m of a = ap (value m of) (let r : instrument n ≡ a = cc in r) in omega (arith, q)
    put_less (instrument n) (k ∷ p) a b e h = absurd (none_some e)
    put_less (apply f ts) [] a b e h = let q : value m of (apply f ts) ≡ value m of a = ap (value m of) (let r : apply f ts ≡ a = cc in r) in omega (arith, q)
    put_less (apply f ts) (k ∷ p) a b e h = omega (arith, put_less_in f 0 ts k p a b e h)

    put_less_in : (f n : ℕ) (ts : Terms) (k : ℕ) (p : Position) (a b : Term) → part_in ts k p ≡ some a → d + value m of b ≤ value m of a → d + values m of f n (put_in ts k p b) ≤ values m of f n ts
    put_less_in f n nil k p a b e h = absurd (none_some e)
    put_less_in f n (cons t ts) zero p a b e h = omega (arith, scaled d (value m of t) (value m of (put_at t p b)) (m.factor f n) (positive f n) (put_less t p a b e h))
    put_less_in f n (cons t ts) (suc k) p a b e h = omega (arith, put_less_in f (suc n) ts k p a b e h)

-- a substitution gives each variable the value of its term
mutual
  pub value_fill : (m : Linear) (of : ℕ → ℕ) (σ : Substitution) (t : Term) → value m of (fill σ t) ≡ value m (λ x. value m of (σ x)) t
  value_fill m of σ (variable x) = refl
  value_fill m of σ (instrument n) = refl
  value_fill m of σ (apply f ts) = ap (λ n. m.base f + n) (values_fill m of σ f 0 ts)

  values_fill : (m : Linear) (of : ℕ → ℕ) (σ : Substitution) (f k : ℕ) (ts : Terms) → values m of f k (fill_all σ ts) ≡ values m (λ x. value m of (σ x)) f k ts
  values_fill m of σ f k nil = refl
  values_fill m of σ f k (cons t ts) = λ i. m.factor f k * value_fill m of σ t i + values_fill m of σ f (suc k) ts i

-- only the values of the eight variables count
mutual
  pub value_same : (m : Linear) (u v : ℕ → ℕ) → ((x : ℕ) → x < 8 → u x ≡ v x) → (sig : Sig) (t : Term) → TermOf sig t → value m u t ≡ value m v t
  value_same m u v e sig (variable x) h = e x h
  value_same m u v e sig (instrument n) h = refl
  value_same m u v e sig (apply f ts) h = ap (λ n. m.base f + n) (values_same m u v e sig f 0 ts h.2)

  values_same : (m : Linear) (u v : ℕ → ℕ) → ((x : ℕ) → x < 8 → u x ≡ v x) → (sig : Sig) (f k : ℕ) (ts : Terms) → TermsOf sig ts → values m u f k ts ≡ values m v f k ts
  values_same m u v e sig f k nil h = refl
  values_same m u v e sig f k (cons t ts) h = λ i. m.factor f k * value_same m u v e sig t h.0 i + values_same m u v e sig f (suc k) ts h.1 i

add_times : (x y a : ℕ) → (x + y) * a ≡ x * a + y * a
add_times x y a = add-mul x y a

-- one more variable with a value counts by its coefficient
mutual
  value_more : (m : Linear) (u : ℕ → ℕ) (x a : ℕ) (t : Term) → value m (λ y. u y + one_at x y * a) t ≡ value m u t + coefficient m x t * a
  value_more m u x a (variable y) = refl
  value_more m u x a (instrument n) = omega arith
  value_more m u x a (apply f ts) = let c = values (baseless m) (one_at x) f 0 ts in omega (arith, values_more m u x a f 0 ts)

  values_more : (m : Linear) (u : ℕ → ℕ) (x a f k : ℕ) (ts : Terms) → values m (λ y. u y + one_at x y * a) f k ts ≡ values m u f k ts + values (baseless m) (one_at x) f k ts * a
  values_more m u x a f k nil = omega arith
  values_more m u x a f k (cons t ts) =
      let n = m.factor f k in
      let c = coefficient m x t in
      let s = values (baseless m) (one_at x) f (suc k) ts in
      let e : n * value m (λ y. u y + one_at x y * a) t ≡ n * (value m u t + c * a) = ap (λ z. n * z) (value_more m u x a t) in
      omega (arith, e, values_more m u x a f (suc k) ts, mul-add n (value m u t) (c * a), add_times (n * c) s a, mul_assoc n c a)

-- the first so many variables with their values, and the others with 0
abbrev front : (ℕ → ℕ) → ℕ → ℕ → ℕ
front of zero x = 0
front of (suc n) x = front of n x + one_at n x * of n

front_past : (of : ℕ → ℕ) (n x : ℕ) → n ≤ x → front of n x ≡ 0
front_past of zero x h = refl
front_past of (suc n) x h = omega (arith, front_past of n x (omega arith), ap (λ z. z * of n) (cond-false (eqb n x) 1 0 (ne_eqb n x (λ e. omega (arith, e)))))

front_in : (of : ℕ → ℕ) (n x : ℕ) → x < n → front of n x ≡ of x
front_in of zero x h = absurd (omega arith)
front_in of (suc n) x h = elim (cases_eq n x) [
  | inl e ↦ omega (arith, front_past of n x (omega (arith, e)), ap (λ z. z * of n) (cond-true (eqb n x) 1 0 (eq-eqb n x e)), ap of e)
  | inr ne ↦ omega (arith, front_in of n x (omega (arith, ne)), ap (λ z. z * of n) (cond-false (eqb n x) 1 0 (ne_eqb n x ne)))
]

-- sides whose coefficients and constants are compared
module _ (m : Linear) (l r : Term) (d : ℕ) (coefficients : (x : ℕ) → coefficient m x r ≤ coefficient m x l) (constants : d + constant m r ≤ constant m l) where
  front_less : (of : ℕ → ℕ) (n : ℕ) → d + value m (λ x. front of n x) r ≤ value m (λ x. front of n x) l
  front_less of zero = constants
  front_less of (suc n) =
      omega (arith, front_less of n, value_more m (λ x. front of n x) n (of n) r, value_more m (λ x. front of n x) n (of n) l, mul-le-mul_right (of n) (coefficients n))

  pub fill_less : (sig : Sig) → TermOf sig l → TermOf sig r → (σ : Substitution) → d + weight m (fill σ r) ≤ weight m (fill σ l)
  fill_less sig left right σ =
      let of : ℕ → ℕ = λ x. weight m (σ x) in
      omega (
        arith,
        front_less of 8,
        value_fill m (λ x. 0) σ r,
        value_fill m (λ x. 0) σ l,
        value_same m (λ x. front of 8 x) of (front_in of 8) sig r right,
        value_same m (λ x. front of 8 x) of (front_in of 8) sig l left,
      )

module _ (m : Linear) (positive : (f k : ℕ) → 1 ≤ m.factor f k) (sig : Sig) where
  by_weight : (P : Term → Type 0) → ((t : Term) → Ticket sig t → ((u : Term) → Ticket sig u → Heavier m t u → P u) → P t) → (n : ℕ) (t : Term) → Ticket sig t → weight m t < n → P t
  by_weight P step zero t h l = absurd (omega arith)
  by_weight P step (suc n) t h l = step t h (λ u k less. by_weight P step n u k (omega arith))

  pub linear_laws : OrderLaws sig (Heavier m) (AsHeavy m) (StrictlyOriented m) (WeaklyOriented m)
  linear_laws = record {
    induction = λ P step t h. by_weight P step (suc (weight m t)) t h (omega arith);
    greater_within = λ t p a b h k e less. omega (arith, put_less m positive (λ x. 0) 1 t p a b e (omega arith));
    at_least_within = λ t p a b h k e less. omega (arith, put_less m positive (λ x. 0) 0 t p a b e (omega arith));
    weaken = λ t u h k less. omega arith;
    greater_at_least = λ s t u h k l a b. omega arith;
    at_least_greater = λ s t u h k l a b. omega arith;
    at_least_at_least = λ s t u h k l a b. omega arith;
    strictly = λ r rule set σ h. omega (arith, fill_less m r.left r.right 1 set.0.coefficients (omega (arith, set.1)) sig rule.left_term rule.right_term σ);
    weakly = λ r rule set σ h. omega (arith, fill_less m r.left r.right 0 set.coefficients (omega (arith, set.constants)) sig rule.left_term rule.right_term σ);
  }

-- the factors of a weighing are none of them 0
pub in_line : (P : Value → Type 0) (line : ℕ) (rows : List Row) (f : ℕ) → ((r : Row) → P (entry_of r line)) → P (neutral_in line) → P (get_or (map (λ (r : Row). entry_of r line) rows) f (neutral_in line))
in_line P line [] f rows neutral = neutral
in_line P line (r ∷ rs) zero rows neutral = rows r
in_line P line (r ∷ rs) (suc f) rows neutral = in_line P line rs f rows neutral

in_factors : {l n : ℕ} (P : Value → Type 0) (factors : List (Option (Bounded l n))) (k : ℕ) → ((b : Option (Bounded l n)) → P (written b)) → P (Some 1) → P (get_or (map written factors) k (Some 1))
in_factors P [] k all one = one
in_factors P (b ∷ bs) zero all one = all b
in_factors P (b ∷ bs) (suc k) all one = in_factors P bs k all one

abbrev pub InFactors : Value → Type 0
InFactors v = (1 ≤ times v) × (times v ≤ 4)

factor_written : (b : Option (Bounded 1 4)) → InFactors (written b)
factor_written None = (omega arith, omega arith)
factor_written (Some b) = (b.least, b.most)

pub factors_within : (w : Weighing) (f k : ℕ) → InFactors (value_at w (suc k) f)
factors_within w f k = in_line InFactors (suc k) w.rows f (λ r. in_factors InFactors r.factors k factor_written (omega arith, omega arith)) (omega arith, omega arith)

pub bases_within : (w : Weighing) (f : ℕ) → (linear_of w).base f ≤ 100
bases_within w f = in_line (λ v. base_in v ≤ 100) 0 w.rows f (λ r. r.base.most) (omega arith)

pub positive : (w : Weighing) (f k : ℕ) → 1 ≤ (linear_of w).factor f k
positive w f k = (factors_within w f k).0
