-- Matching a linear left side: the answer is a substitution, and there is one where a substitution is.
use Rattle.std.proofs.Common.{◌≡◌, refl, sym, ◌∙◌, ap, subst, [], ◌∷◌, ◌++◌, Bool, true, false, cond, ℕ, ◌+◌, ◌≤◌, ◌==◌, arith, eqb-true, eq-eqb}
use Rattle.std.proofs.Math.Option.{Option, none, some}
use Rattle.terms.specs.Term.{Term, variable, instrument, apply, Terms, nil, cons}
use Rattle.terms.specs.Substitution.{Substitution, fill, fill_all, occurrences, occurrences_in}
use Rattle.rewriting.specs.Bindings.{Bindings, bound, joined}
use Rattle.rewriting.specs.Next.{matching, matching_all}
use Rattle.rewriting.proofs.Filling.{fill_ext, fill_all_ext, apply_inj, head_inj, tail_inj, none_some}

-- how often a variable is bound
abbrev pub binds : ℕ → Bindings → ℕ
binds x [] = 0
binds x (b ∷ m) = cond (x == b.0) 1 0 + binds x m

pub binds_append : (x : ℕ) (m n : Bindings) → binds x (m ++ n) ≡ binds x m + binds x n
binds_append x [] n = omega arith
binds_append x (b ∷ m) n = let h = binds_append x m n in omega arith

pub bound_left : (x : ℕ) (m n : Bindings) → 1 ≤ binds x m → bound (m ++ n) x ≡ bound m x
bound_left x [] n h = absurd (omega arith)
bound_left x (b ∷ m) n h = go (bound_left x m n) (x == b.0) h
  where
    go : (1 ≤ binds x m → bound (m ++ n) x ≡ bound m x) → (t : Bool) → 1 ≤ cond t 1 0 + binds x m → cond t b.1 (bound (m ++ n) x) ≡ cond t b.1 (bound m x)
    go rec true h = refl
    go rec false h = rec (omega arith)

pub bound_right : (x : ℕ) (m n : Bindings) → binds x m ≡ 0 → bound (m ++ n) x ≡ bound n x
bound_right x [] n h = refl
bound_right x (b ∷ m) n h = go (bound_right x m n) (x == b.0) h
  where
    go : (binds x m ≡ 0 → bound (m ++ n) x ≡ bound n x) → (t : Bool) → cond t 1 0 + binds x m ≡ 0 → cond t b.1 (bound (m ++ n) x) ≡ bound n x
    go rec true h = absurd (omega arith)
    go rec false h = rec (omega arith)

-- a pair of answers is an answer where joined are
pub joined_some : (o q : Option Bindings) (m : Bindings) → joined o q ≡ some m → (a : Bindings) × (b : Bindings) × (o ≡ some a) × (q ≡ some b) × (m ≡ a ++ b)
joined_some none q m e = absurd (none_some e)
joined_some (some a) none m e = absurd (none_some e)
joined_some (some a) (some b) m e = (a, b, refl, refl, cc)

-- an answer under a test
pub tested : (f g : ℕ) (o : Option Bindings) (m : Bindings) → cond (f == g) o none ≡ some m → (f ≡ g) × (o ≡ some m)
tested f g o m e = go (f == g) refl e
  where
    go : (b : Bool) → f == g ≡ b → cond b o none ≡ some m → (f ≡ g) × (o ≡ some m)
    go true q e = (eqb-true f g q, e)
    go false q e = absurd (none_some e)

-- the variables that are bound are those of the left side
mutual
  pub matching_binds : (a t : Term) (m : Bindings) → matching a t ≡ some m → (x : ℕ) → binds x m ≡ occurrences x a
  matching_binds (variable y) t m e x = let q : m ≡ (y, t) ∷ [] = cc in subst (λ z. binds x z ≡ occurrences x (variable y)) (sym q) (omega arith)
  matching_binds (instrument n) (variable y) m e x = absurd (none_some e)
  matching_binds (instrument n) (instrument k) m e x = let h = (tested n k (some []) m e).1 in let q : m ≡ [] = cc in subst (λ z. binds x z ≡ 0) (sym q) refl
  matching_binds (instrument n) (apply g us) m e x = absurd (none_some e)
  matching_binds (apply f ts) (variable y) m e x = absurd (none_some e)
  matching_binds (apply f ts) (instrument k) m e x = absurd (none_some e)
  matching_binds (apply f ts) (apply g us) m e x = matching_all_binds ts us m (tested f g (matching_all ts us) m e).1 x

  pub matching_all_binds : (a t : Terms) (m : Bindings) → matching_all a t ≡ some m → (x : ℕ) → binds x m ≡ occurrences_in x a
  matching_all_binds nil nil m e x = let q : m ≡ [] = cc in subst (λ z. binds x z ≡ 0) (sym q) refl
  matching_all_binds nil (cons u us) m e x = absurd (none_some e)
  matching_all_binds (cons t ts) nil m e x = absurd (none_some e)
  matching_all_binds (cons t ts) (cons u us) m e x =
      let (a, b, p, q, r) = joined_some (matching t u) (matching_all ts us) m e in
      let h = matching_binds t u a p x in
      let k = matching_all_binds ts us b q x in
      subst (λ z. binds x z ≡ occurrences x t + occurrences_in x ts) (sym r) (binds_append x a b ∙ (λ i. h i + k i))

-- the answer fill_all the left side into the term
mutual
  pub matching_sound : (a t : Term) (m : Bindings) → ((x : ℕ) → occurrences x a ≤ 1) → matching a t ≡ some m → fill (bound m) a ≡ t
  matching_sound (variable y) t m lin e = let q : m ≡ (y, t) ∷ [] = cc in subst (λ z. bound z y ≡ t) (sym q) (rw (eq-eqb y y refl))
  matching_sound (instrument n) (variable y) m lin e = absurd (none_some e)
  matching_sound (instrument n) (instrument k) m lin e = ap instrument (tested n k (some []) m e).0
  matching_sound (instrument n) (apply g us) m lin e = absurd (none_some e)
  matching_sound (apply f ts) (variable y) m lin e = absurd (none_some e)
  matching_sound (apply f ts) (instrument k) m lin e = absurd (none_some e)
  matching_sound (apply f ts) (apply g us) m lin e =
      let (q, h) = tested f g (matching_all ts us) m e in
      let k = matching_all_sound ts us m lin h in
      λ i. apply (q i) (k i)

  pub matching_all_sound : (a t : Terms) (m : Bindings) → ((x : ℕ) → occurrences_in x a ≤ 1) → matching_all a t ≡ some m → fill_all (bound m) a ≡ t
  matching_all_sound nil nil m lin e = refl
  matching_all_sound nil (cons u us) m lin e = absurd (none_some e)
  matching_all_sound (cons t ts) nil m lin e = absurd (none_some e)
  matching_all_sound (cons t ts) (cons u us) m lin e =
      let (a, b, p, q, r) = joined_some (matching t u) (matching_all ts us) m e in
      let left : fill (bound (a ++ b)) t ≡ fill (bound a) t = fill_ext (bound (a ++ b)) (bound a) t (λ x k. bound_left x a b (omega (arith, matching_binds t u a p x))) in
      let right : fill_all (bound (a ++ b)) ts ≡ fill_all (bound b) ts =
      fill_all_ext (bound (a ++ b)) (bound b) ts (λ x k. bound_right x a b (omega (arith, matching_binds t u a p x, lin x))) in
      let h : fill (bound a) t ≡ u = matching_sound t u a (λ x. omega (arith, lin x)) p in
      let k : fill_all (bound b) ts ≡ us = matching_all_sound ts us b (λ x. omega (arith, lin x)) q in
      subst (λ z. fill_all (bound z) (cons t ts) ≡ cons u us) (sym r) (λ i. cons ((left ∙ h) i) ((right ∙ k) i))

-- where further is a substitution further is an answer
mutual
  pub matching_complete : (s : Substitution) (a t : Term) → fill s a ≡ t → (m : Bindings) × (matching a t ≡ some m)
  matching_complete s (variable y) t e = ((y, t) ∷ [], refl)
  matching_complete s (instrument n) (variable y) e = let z : ◌≡◌ {A = ℕ} 0 1 = cc in absurd (omega arith)
  matching_complete s (instrument n) (instrument k) e = let q : n ≡ k = cc in ([], rw (eq-eqb n k q))
  matching_complete s (instrument n) (apply g us) e = let z : ◌≡◌ {A = ℕ} 0 1 = cc in absurd (omega arith)
  matching_complete s (apply f ts) (variable y) e = let z : ◌≡◌ {A = ℕ} 0 1 = cc in absurd (omega arith)
  matching_complete s (apply f ts) (instrument k) e = let z : ◌≡◌ {A = ℕ} 0 1 = cc in absurd (omega arith)
  matching_complete s (apply f ts) (apply g us) e =
      let q : f ≡ g = cc in
      let (m, k) = matching_all_complete s ts us (apply_inj e) in
      (m, rw (eq-eqb f g q) k)

  pub matching_all_complete : (s : Substitution) (a t : Terms) → fill_all s a ≡ t → (m : Bindings) × (matching_all a t ≡ some m)
  matching_all_complete s nil nil e = ([], refl)
  matching_all_complete s nil (cons u us) e = let z : ◌≡◌ {A = ℕ} 0 1 = cc in absurd (omega arith)
  matching_all_complete s (cons t ts) nil e = let z : ◌≡◌ {A = ℕ} 0 1 = cc in absurd (omega arith)
  matching_all_complete s (cons t ts) (cons u us) e =
      let (m, k) = matching_complete s t u (head_inj e) in
      let (n, j) = matching_all_complete s ts us (tail_inj e) in
      (m ++ n, rw (k, j))
