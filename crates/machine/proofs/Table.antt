-- The table of entries.
use Rattle.std.proofs.Common.{◌≡◌, refl, ap, List, [], ◌∷◌, Some, None, ◌⊎◌, inl, inr, ℕ, zero, suc, ◌+◌, sum_by, set, replicate, slice_get, arith}
use Rattle.std.proofs.lemmas.List.Sums.{sum_by-cons}
use Rattle.machine.specs.Machine.{Entry}

pub None_Some : {A : Type 0} {a : A} → None ≡ Some a → ⊥
None_Some e = cc

-- an entry of a table in which one became another: that one, or any other
pub in_set : (es : List Entry) (i : ℕ) (x : Entry) (j : ℕ) (y : Entry) → slice_get (set es i x) j ≡ Some y → ((i ≡ j) × (x ≡ y)) ⊎ ((i ≡ j → ⊥) × (slice_get es j ≡ Some y))
in_set [] i x j y q = absurd (None_Some q)
in_set (z ∷ zs) zero x zero y q = inl (refl, cc)
in_set (z ∷ zs) zero x (suc j) y q = inr (λ e. omega arith, q)
in_set (z ∷ zs) (suc i) x zero y q = inr (λ e. omega arith, q)
in_set (z ∷ zs) (suc i) x (suc j) y q = go (in_set zs i x j y q)
  where
    go : ((i ≡ j) × (x ≡ y)) ⊎ ((i ≡ j → ⊥) × (slice_get zs j ≡ Some y)) → ((suc i ≡ suc j) × (x ≡ y)) ⊎ ((suc i ≡ suc j → ⊥) × (slice_get zs j ≡ Some y))
    go (inl (e, p)) = inl (ap suc e, p)
    go (inr (n, p)) = inr (λ e. n (omega arith), p)

pub set_here : (es : List Entry) (i : ℕ) (x y : Entry) → slice_get es i ≡ Some y → slice_get (set es i x) i ≡ Some x
set_here [] i x y q = absurd (None_Some q)
set_here (z ∷ zs) zero x y q = refl
set_here (z ∷ zs) (suc i) x y q = set_here zs i x y q

pub set_there : (es : List Entry) (i : ℕ) (x : Entry) (j : ℕ) → (i ≡ j → ⊥) → slice_get (set es i x) j ≡ slice_get es j
set_there [] i x j n = refl
set_there (z ∷ zs) zero x zero n = absurd (n refl)
set_there (z ∷ zs) zero x (suc j) n = refl
set_there (z ∷ zs) (suc i) x zero n = refl
set_there (z ∷ zs) (suc i) x (suc j) n = set_there zs i x j (λ e. n (ap suc e))

-- an entry that becomes another, in the sum over the table
pub sum_set : (f : Entry → ℕ) (es : List Entry) (i : ℕ) (x old : Entry) → slice_get es i ≡ Some old → sum_by f (set es i x) + f old ≡ sum_by f es + f x
sum_set f [] i x old q = absurd (None_Some q)
sum_set f (y ∷ ys) zero x old q =
    let w : y ≡ old = cc in
    let h : f y ≡ f old = ap f w in
    let a = sum_by-cons f x ys in
    let b = sum_by-cons f y ys in
    omega arith
sum_set f (y ∷ ys) (suc i) x old q =
    let h = sum_set f ys i x old q in
    let a = sum_by-cons f y (set ys i x) in
    let b = sum_by-cons f y ys in
    omega arith

pub in_replicate : (n : ℕ) (x e : Entry) (j : ℕ) → slice_get (replicate n x) j ≡ Some e → e ≡ x
in_replicate zero x e j q = absurd (None_Some q)
in_replicate (suc n) x e zero q = cc
in_replicate (suc n) x e (suc j) q = in_replicate n x e j q
