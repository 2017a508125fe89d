-- The unifier of two separate terms makes them equal.
use Rattle.std.proofs.Common.{◌≡◌, refl, sym, ◌∙◌, ap, subst, [], ◌∷◌, ◌++◌, Bool, true, false, cond, ℕ, ◌+◌, ◌≤◌, ◌==◌, arith, eqb-true, eq-eqb}
use Rattle.std.proofs.Math.Option.{some}
use Rattle.terms.specs.Term.{Term, variable, instrument, apply, Terms, nil, cons}
use Rattle.terms.specs.Substitution.{fill, fill_all, occurrences, occurrences_in}
use Rattle.rewriting.specs.Bindings.{Bindings, bound}
use Rattle.rewriting.specs.Unifier.{unifier, unifier_all}
use Rattle.rewriting.proofs.Filling.{count_self, fill_ext, fill_all_ext, none_some}
use Rattle.rewriting.proofs.Matching.{binds, binds_append, bound_right, joined_some, tested}

mutual
  pub fill_variables : (t : Term) → fill variable t ≡ t
  fill_variables (variable x) = refl
  fill_variables (instrument n) = refl
  fill_variables (apply f ts) = ap (apply f) (fill_all_variables ts)

  pub fill_all_variables : (ts : Terms) → fill_all variable ts ≡ ts
  fill_all_variables nil = refl
  fill_all_variables (cons t ts) = λ i. cons (fill_variables t i) (fill_all_variables ts i)

-- a variable that is not bound stays, also behind other bindings
pub bound_unbound : (x : ℕ) (m : Bindings) → binds x m ≡ 0 → bound m x ≡ variable x
bound_unbound x [] h = refl
bound_unbound x (b ∷ m) h = go (bound_unbound x m) (x == b.0) h
  where
    go : (binds x m ≡ 0 → bound m x ≡ variable x) → (t : Bool) → cond t 1 0 + binds x m ≡ 0 → cond t b.1 (bound m x) ≡ variable x
    go rec true h = absurd (omega arith)
    go rec false h = rec (omega arith)

pub bound_first : (x : ℕ) (m n : Bindings) → binds x n ≡ 0 → bound (m ++ n) x ≡ bound m x
bound_first x [] n h = bound_unbound x n h
bound_first x (b ∷ m) n h = ap (cond (x == b.0) b.1) (bound_first x m n h)

-- only variables of the two are bound
mutual
  pub unifier_binds : (a b : Term) (m : Bindings) → unifier a b ≡ some m → (x : ℕ) → binds x m ≤ occurrences x a + occurrences x b
  unifier_binds (variable y) b m e x = let q : m ≡ (y, b) ∷ [] = cc in subst (λ z. binds x z ≤ occurrences x (variable y) + occurrences x b) (sym q) (omega arith)
  unifier_binds (instrument n) (variable y) m e x = let q : m ≡ (y, instrument n) ∷ [] = cc in subst (λ z. binds x z ≤ 0 + occurrences x (variable y)) (sym q) (omega arith)
  unifier_binds (instrument n) (instrument k) m e x = let h = (tested n k (some []) m e).1 in let q : m ≡ [] = cc in subst (λ z. binds x z ≤ 0 + 0) (sym q) (omega arith)
  unifier_binds (instrument n) (apply g us) m e x = absurd (none_some e)
  unifier_binds (apply f ts) (variable y) m e x = let q : m ≡ (y, apply f ts) ∷ [] = cc in subst (λ z. binds x z ≤ occurrences_in x ts + occurrences x (variable y)) (sym q) (omega arith)
  unifier_binds (apply f ts) (instrument k) m e x = absurd (none_some e)
  unifier_binds (apply f ts) (apply g us) m e x = unifier_all_binds ts us m (tested f g (unifier_all ts us) m e).1 x

  pub unifier_all_binds : (a b : Terms) (m : Bindings) → unifier_all a b ≡ some m → (x : ℕ) → binds x m ≤ occurrences_in x a + occurrences_in x b
  unifier_all_binds nil nil m e x = let q : m ≡ [] = cc in subst (λ z. binds x z ≤ 0 + 0) (sym q) (omega arith)
  unifier_all_binds nil (cons u us) m e x = absurd (none_some e)
  unifier_all_binds (cons t ts) nil m e x = absurd (none_some e)
  unifier_all_binds (cons t ts) (cons u us) m e x =
      let (a, b, p, q, r) = joined_some (unifier t u) (unifier_all ts us) m e in
      let h = unifier_binds t u a p x in
      let k = unifier_all_binds ts us b q x in
      subst (λ z. binds x z ≤ (occurrences x t + occurrences_in x ts) + (occurrences x u + occurrences_in x us)) (sym r) (omega (arith, binds_append x a b))

-- one_step binding, of a variable that does not stand in the term
pub one_binding : (y : ℕ) (b : Term) → occurrences y b ≡ 0 → bound ((y, b) ∷ []) y ≡ fill (bound ((y, b) ∷ [])) b
one_binding y b h =
    let p : bound ((y, b) ∷ []) y ≡ b = rw (eq-eqb y y refl) in
    p ∙ sym (fill_ext (bound ((y, b) ∷ [])) variable b (λ x k. go x k (x == y) refl) ∙ fill_variables b)
  where
    go : (x : ℕ) → 1 ≤ occurrences x b → (t : Bool) → x == y ≡ t → cond t b (variable x) ≡ variable x
    go x k true e = let q : occurrences x b ≡ occurrences y b = ap (λ z. occurrences z b) (eqb-true x y e) in absurd (omega arith)
    go x k false e = refl

mutual
  pub unifier_sound : (a b : Term) (m : Bindings) → ((x : ℕ) → occurrences x a + occurrences x b ≤ 1) → unifier a b ≡ some m → fill (bound m) a ≡ fill (bound m) b
  unifier_sound (variable y) b m lin e =
      let q : m ≡ (y, b) ∷ [] = cc in
      subst (λ z. bound z y ≡ fill (bound z) b) (sym q) (one_binding y b (omega (arith, lin y, count_self y)))
  unifier_sound (instrument n) (variable y) m lin e = let q : m ≡ (y, instrument n) ∷ [] = cc in subst (λ z. instrument n ≡ bound z y) (sym q) (sym (one_binding y (instrument n) refl))
  unifier_sound (instrument n) (instrument k) m lin e = ap instrument (tested n k (some []) m e).0
  unifier_sound (instrument n) (apply g us) m lin e = absurd (none_some e)
  unifier_sound (apply f ts) (variable y) m lin e =
      let q : m ≡ (y, apply f ts) ∷ [] = cc in
      subst (λ z. apply f (fill_all (bound z) ts) ≡ bound z y) (sym q) (sym (one_binding y (apply f ts) (omega (arith, lin y, count_self y))))
  unifier_sound (apply f ts) (instrument k) m lin e = absurd (none_some e)
  unifier_sound (apply f ts) (apply g us) m lin e =
      let (q, h) = tested f g (unifier_all ts us) m e in
      let k = unifier_all_sound ts us m lin h in
      λ i. apply (q i) (k i)

  pub unifier_all_sound : (a b : Terms) (m : Bindings) → ((x : ℕ) → occurrences_in x a + occurrences_in x b ≤ 1) → unifier_all a b ≡ some m → fill_all (bound m) a ≡ fill_all (bound m) b
  unifier_all_sound nil nil m lin e = refl
  unifier_all_sound nil (cons u us) m lin e = absurd (none_some e)
  unifier_all_sound (cons t ts) nil m lin e = absurd (none_some e)
  unifier_all_sound (cons t ts) (cons u us) m lin e =
      let (a, b, p, q, r) = joined_some (unifier t u) (unifier_all ts us) m e in
      let h : fill (bound a) t ≡ fill (bound a) u = unifier_sound t u a (λ x. omega (arith, lin x)) p in
      let k : fill_all (bound b) ts ≡ fill_all (bound b) us = unifier_all_sound ts us b (λ x. omega (arith, lin x)) q in
      let c : Bindings = a ++ b in
      let t-is : fill (bound c) t ≡ fill (bound a) t = fill_ext (bound c) (bound a) t (λ x j. bound_first x a b (omega (arith, lin x, unifier_all_binds ts us b q x))) in
      let u-is : fill (bound c) u ≡ fill (bound a) u = fill_ext (bound c) (bound a) u (λ x j. bound_first x a b (omega (arith, lin x, unifier_all_binds ts us b q x))) in
      let ts-is : fill_all (bound c) ts ≡ fill_all (bound b) ts = fill_all_ext (bound c) (bound b) ts (λ x j. bound_right x a b (omega (arith, lin x, unifier_binds t u a p x))) in
      let us-is : fill_all (bound c) us ≡ fill_all (bound b) us = fill_all_ext (bound c) (bound b) us (λ x j. bound_right x a b (omega (arith, lin x, unifier_binds t u a p x))) in
      subst (λ z. fill_all (bound z) (cons t ts) ≡ fill_all (bound z) (cons u us)) (sym r) (λ i. cons ((t-is ∙ h ∙ sym u-is) i) ((ts-is ∙ k ∙ sym us-is) i))
