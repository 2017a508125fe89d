-- Substitutions compose, they depend on the variables that stand in the term alone, and the filled term determines them there.
use Rattle.std.proofs.Common.{◌≡◌, refl, sym, ap, subst, [], ◌∷◌, Bool, true, false, cond, ◌⊎◌, inl, inr, ℕ, zero, suc, ◌+◌, ◌≤◌, ◌==◌, arith, eqb-true, eq-eqb}
use Rattle.std.proofs.Math.Option.{none, some}
use Rattle.terms.specs.Term.{Term, variable, instrument, apply, Terms, nil, cons}
use Rattle.terms.specs.Substitution.{Substitution, fill, fill_all, occurrences, occurrences_in}
use Rattle.terms.specs.Position.{Position, part_at, part_in, put_at, put_in}

pub count_self : (x : ℕ) → occurrences x (variable x) ≡ 1
count_self x = rw (eq-eqb x x refl)

-- a variable that stands in a variable is that variable
pub in_variable : (x y : ℕ) → 1 ≤ occurrences x (variable y) → x ≡ y
in_variable x y h = go (x == y) refl h
  where
    go : (b : Bool) → x == y ≡ b → 1 ≤ cond b 1 0 → x ≡ y
    go true e k = eqb-true x y e
    go false e k = absurd (omega arith)

mutual
  pub fill_ext : (s s' : Substitution) (t : Term) → ((x : ℕ) → 1 ≤ occurrences x t → s x ≡ s' x) → fill s t ≡ fill s' t
  fill_ext s s' (variable y) h = h y (rw (count_self y) (omega arith))
  fill_ext s s' (instrument n) h = refl
  fill_ext s s' (apply f ts) h = ap (apply f) (fill_all_ext s s' ts h)

  pub fill_all_ext : (s s' : Substitution) (ts : Terms) → ((x : ℕ) → 1 ≤ occurrences_in x ts → s x ≡ s' x) → fill_all s ts ≡ fill_all s' ts
  fill_all_ext s s' nil h = refl
  fill_all_ext s s' (cons t ts) h = λ i. cons (fill_ext s s' t (λ x k. h x (omega arith)) i) (fill_all_ext s s' ts (λ x k. h x (omega arith)) i)

mutual
  pub fill_fill : (s m : Substitution) (t : Term) → fill s (fill m t) ≡ fill (λ x. fill s (m x)) t
  fill_fill s m (variable y) = refl
  fill_fill s m (instrument n) = refl
  fill_fill s m (apply f ts) = ap (apply f) (fill_all_fill_all s m ts)

  pub fill_all_fill_all : (s m : Substitution) (ts : Terms) → fill_all s (fill_all m ts) ≡ fill_all (λ x. fill s (m x)) ts
  fill_all_fill_all s m nil = refl
  fill_all_fill_all s m (cons t ts) = λ i. cons (fill_fill s m t i) (fill_all_fill_all s m ts i)

pub apply_inj : {f g : ℕ} {ts us : Terms} → apply f ts ≡ apply g us → ts ≡ us
apply_inj e = cc

pub head_inj : {t u : Term} {ts us : Terms} → cons t ts ≡ cons u us → t ≡ u
head_inj e = cc

pub tail_inj : {t u : Term} {ts us : Terms} → cons t ts ≡ cons u us → ts ≡ us
tail_inj e = cc

pub one_of : (a b : ℕ) → 1 ≤ a + b → (1 ≤ a) ⊎ (1 ≤ b)
one_of zero b h = inr (omega arith)
one_of (suc a) b h = inl (omega arith)

mutual
  pub fill_inj : (s s' : Substitution) (t : Term) → fill s t ≡ fill s' t → (x : ℕ) → 1 ≤ occurrences x t → s x ≡ s' x
  fill_inj s s' (variable y) e x h = rw (in_variable x y h) e
  fill_inj s s' (instrument n) e x h = absurd (omega arith)
  fill_inj s s' (apply f ts) e x h = fill_all_inj s s' ts (apply_inj e) x h

  pub fill_all_inj : (s s' : Substitution) (ts : Terms) → fill_all s ts ≡ fill_all s' ts → (x : ℕ) → 1 ≤ occurrences_in x ts → s x ≡ s' x
  fill_all_inj s s' nil e x h = absurd (omega arith)
  fill_all_inj s s' (cons t ts) e x h =
      elim (one_of (occurrences x t) (occurrences_in x ts) h) [ inl k ↦ fill_inj s s' t (head_inj e) x k | inr k ↦ fill_all_inj s s' ts (tail_inj e) x k ]

-- a substitution with another term for one_step variable
abbrev pub updated : Substitution → ℕ → Term → Substitution
updated s x v y = cond (x == y) v (s y)

pub updated_same : (s : Substitution) (x : ℕ) (v : Term) → updated s x v x ≡ v
updated_same s x v = rw (eq-eqb x x refl)

-- a variable that does not stand in the term
pub updated_out : (s : Substitution) (x : ℕ) (v : Term) (t : Term) → occurrences x t ≡ 0 → fill (updated s x v) t ≡ fill s t
updated_out s x v t h = fill_ext (updated s x v) s t (λ y k. go y k (x == y) refl)
  where
    go : (y : ℕ) → 1 ≤ occurrences y t → (b : Bool) → x == y ≡ b → cond b v (s y) ≡ s y
    go y k true e = let q : occurrences x t ≡ occurrences y t = ap (λ z. occurrences z t) (eqb-true x y e) in absurd (omega arith)
    go y k false e = refl

pub updated_all-out : (s : Substitution) (x : ℕ) (v : Term) (ts : Terms) → occurrences_in x ts ≡ 0 → fill_all (updated s x v) ts ≡ fill_all s ts
updated_all-out s x v ts h = apply_inj (updated_out s x v (apply 0 ts) h)

-- ---- positions

pub none_some : {A : Type 0} {a : A} → none ≡ some a → ⊥
none_some e = let z : ◌≡◌ {A = ℕ} 0 1 = cc in omega arith

pub part_root : (t : Term) → part_at t [] ≡ some t
part_root (variable x) = refl
part_root (instrument n) = refl
part_root (apply f ts) = refl

pub put_root : (t v : Term) → put_at t [] v ≡ v
put_root (variable x) v = refl
put_root (instrument n) v = refl
put_root (apply f ts) v = refl

-- a variable of a part is one_step of the whole
mutual
  pub part_occurs : (t : Term) (p : Position) (b : Term) → part_at t p ≡ some b → (x : ℕ) → 1 ≤ occurrences x b → 1 ≤ occurrences x t
  part_occurs (variable y) [] b e x h = let q : b ≡ variable y = cc in subst (λ z. 1 ≤ occurrences x z) q h
  part_occurs (variable y) (k ∷ p) b e x h = absurd (none_some e)
  part_occurs (instrument n) [] b e x h = let q : b ≡ instrument n = cc in subst (λ z. 1 ≤ occurrences x z) q h
  part_occurs (instrument n) (k ∷ p) b e x h = absurd (none_some e)
  part_occurs (apply f ts) [] b e x h = let q : b ≡ apply f ts = cc in subst (λ z. 1 ≤ occurrences x z) q h
  part_occurs (apply f ts) (k ∷ p) b e x h = part_in_occurs ts k p b e x h

  pub part_in_occurs : (ts : Terms) (k : ℕ) (p : Position) (b : Term) → part_in ts k p ≡ some b → (x : ℕ) → 1 ≤ occurrences x b → 1 ≤ occurrences_in x ts
  part_in_occurs nil k p b e x h = absurd (none_some e)
  part_in_occurs (cons t ts) zero p b e x h = let q : 1 ≤ occurrences x t = part_occurs t p b e x h in omega arith
  part_in_occurs (cons t ts) (suc k) p b e x h = let q : 1 ≤ occurrences_in x ts = part_in_occurs ts k p b e x h in omega arith

-- to fill and to put commute
mutual
  pub put_fill : (s : Substitution) (t : Term) (p : Position) (b c : Term) → part_at t p ≡ some b → fill s (put_at t p c) ≡ put_at (fill s t) p (fill s c)
  put_fill s (variable y) [] b c e = sym (put_root (s y) (fill s c))
  put_fill s (variable y) (k ∷ p) b c e = absurd (none_some e)
  put_fill s (instrument n) [] b c e = refl
  put_fill s (instrument n) (k ∷ p) b c e = absurd (none_some e)
  put_fill s (apply f ts) [] b c e = refl
  put_fill s (apply f ts) (k ∷ p) b c e = ap (apply f) (put_in_fill s ts k p b c e)

  pub put_in_fill : (s : Substitution) (ts : Terms) (k : ℕ) (p : Position) (b c : Term) → part_in ts k p ≡ some b → fill_all s (put_in ts k p c) ≡ put_in (fill_all s ts) k p (fill s c)
  put_in_fill s nil k p b c e = absurd (none_some e)
  put_in_fill s (cons t ts) zero p b c e = λ i. cons (put_fill s t p b c e i) (fill_all s ts)
  put_in_fill s (cons t ts) (suc k) p b c e = λ i. cons (fill s t) (put_in_fill s ts k p b c e i)
