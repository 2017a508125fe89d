-- The unifier and the term that two terms become.
use Rattle.std.proofs.Common.{◌≡◌, refl, sym, ◌∙◌, ap, subst, [], ◌∷◌, ◌++◌, Bool, true, false, cond, ◌⊎◌, inl, inr, ℕ, ◌+◌, ◌≤◌, ◌==◌, arith, eq-eqb}
use Rattle.std.proofs.Math.Option.{Option, none, some}
use Rattle.terms.specs.Term.{Term, variable, instrument, apply, Terms, nil, cons}
use Rattle.terms.specs.Substitution.{fill, fill_all, occurrences, occurrences_in}
use Rattle.rewriting.specs.Bindings.{Bindings, bound, joined}
use Rattle.rewriting.specs.Unifier.{unifier, unifier_all, common, common_all}
use Rattle.rewriting.specs.Laws.{UnifierIsCommon}
use Rattle.rewriting.proofs.Filling.{none_some, fill_ext, fill_all_ext, count_self}
use Rattle.rewriting.proofs.Matching.{bound_right, joined_some, tested}
use Rattle.rewriting.proofs.UnifierSound.{one_binding, bound_first, unifier_binds, unifier_all_binds}

no_more : {A B : Type 0} (b : Bool) (x : A) (y : B) → cond b (some x) none ≡ none → cond b (some y) none ≡ none
no_more true x y e = absurd (none_some (sym e))
no_more false x y e = refl

-- what operators and rows make of what their arguments become
under : (o : Option Terms) (f : ℕ) (vs : Terms) → o ≡ some vs → (elim o as (λ _. Option Term) [ none ↦ none | some ws ↦ some (apply f ws) ]) ≡ some (apply f vs)
under none f vs e = absurd (none_some e)
under (some ws) f vs e = cc

in_row : (o : Option Term) (q : Option Terms) (v : Term) (vs : Terms) → o ≡ some v → q ≡ some vs → (elim o as (λ _. Option Terms) [ none ↦ none | some w ↦ elim q [ none ↦ none | some ws ↦ some (cons w ws) ] ]) ≡ some (cons v vs)
in_row none q v vs e k = absurd (none_some e)
in_row (some w) none v vs e k = absurd (none_some k)
in_row (some w) (some ws) v vs e k = cc

no_row : (o : Option Term) (q : Option Terms) → (o ≡ none) ⊎ (q ≡ none) → (elim o as (λ _. Option Terms) [ none ↦ none | some w ↦ elim q [ none ↦ none | some ws ↦ some (cons w ws) ] ]) ≡ none
no_row none q h = refl
no_row (some w) none h = refl
no_row (some w) (some ws) (inl e) = absurd (none_some (sym e))
no_row (some w) (some ws) (inr e) = absurd (none_some (sym e))

mutual
  none_common : (a b : Term) → unifier a b ≡ none → common a b ≡ none
  none_common (variable x) u e = absurd (none_some (sym e))
  none_common (instrument n) (variable y) e = absurd (none_some (sym e))
  none_common (instrument n) (instrument k) e = no_more {A = Bindings} (n == k) [] (instrument n) e
  none_common (instrument n) (apply g us) e = refl
  none_common (apply f ts) (variable y) e = absurd (none_some (sym e))
  none_common (apply f ts) (instrument k) e = refl
  none_common (apply f ts) (apply g us) e = go (f == g) (none_common_all ts us) e
    where
      go : (b : Bool) → (unifier_all ts us ≡ none → common_all ts us ≡ none) → cond b (unifier_all ts us) none ≡ none → cond b (elim (common_all ts us) as (λ _. Option Term) [ none ↦ none | some vs ↦ some (apply f vs) ]) none ≡ none
      go true rec e = rw (rec e) refl
      go false rec e = refl

  none_common_all : (a b : Terms) → unifier_all a b ≡ none → common_all a b ≡ none
  none_common_all nil nil e = absurd (none_some (sym e))
  none_common_all nil (cons u us) e = refl
  none_common_all (cons t ts) nil e = refl
  none_common_all (cons t ts) (cons u us) e = go (unifier t u) refl (unifier_all ts us) refl (none_common t u) (none_common_all ts us) e
    where
      go : (o : Option Bindings) → unifier t u ≡ o → (q : Option Bindings) → unifier_all ts us ≡ q → (unifier t u ≡ none → common t u ≡ none) → (unifier_all ts us ≡ none → common_all ts us ≡ none) → joined o q ≡ none → common_all (cons t ts) (cons u us) ≡ none
      go none p q r one all e = no_row (common t u) (common_all ts us) (inl (one p))
      go (some m) p none r one all e = no_row (common t u) (common_all ts us) (inr (all r))
      go (some m) p (some n) r one all e = absurd (none_some (sym e))

mutual
  some_common : (a b : Term) (m : Bindings) → ((x : ℕ) → occurrences x a + occurrences x b ≤ 1) → unifier a b ≡ some m → common a b ≡ some (fill (bound m) a)
  some_common (variable y) b m lin e = let q : m ≡ (y, b) ∷ [] = cc in subst (λ z. some b ≡ some (bound z y)) (sym q) (rw (eq-eqb y y refl) refl)
  some_common (instrument n) (variable y) m lin e = refl
  some_common (instrument n) (instrument k) m lin e = rw (eq-eqb n k (tested n k (some []) m e).0) refl
  some_common (instrument n) (apply g us) m lin e = absurd (none_some e)
  some_common (apply f ts) (variable y) m lin e =
      let q : m ≡ (y, apply f ts) ∷ [] = cc in
      let own : bound ((y, apply f ts) ∷ []) y ≡ apply f ts = rw (eq-eqb y y refl) refl in
      subst (λ z. some (apply f ts) ≡ some (fill (bound z) (apply f ts))) (sym q) (ap some (sym own ∙ one_binding y (apply f ts) (omega (arith, lin y, count_self y))))
  some_common (apply f ts) (instrument k) m lin e = absurd (none_some e)
  some_common (apply f ts) (apply g us) m lin e =
      let (q, h) = tested f g (unifier_all ts us) m e in
      rw (eq-eqb f g q) (under (common_all ts us) f (fill_all (bound m) ts) (some_common_all ts us m lin h))

  some_common_all : (a b : Terms) (m : Bindings) → ((x : ℕ) → occurrences_in x a + occurrences_in x b ≤ 1) → unifier_all a b ≡ some m → common_all a b ≡ some (fill_all (bound m) a)
  some_common_all nil nil m lin e = refl
  some_common_all nil (cons u us) m lin e = absurd (none_some e)
  some_common_all (cons t ts) nil m lin e = absurd (none_some e)
  some_common_all (cons t ts) (cons u us) m lin e =
      let (a, b, p, q, r) = joined_some (unifier t u) (unifier_all ts us) m e in
      let h = some_common t u a (λ x. omega (arith, lin x)) p in
      let k = some_common_all ts us b (λ x. omega (arith, lin x)) q in
      let c : Bindings = a ++ b in
      let t-is : fill (bound c) t ≡ fill (bound a) t = fill_ext (bound c) (bound a) t (λ x j. bound_first x a b (omega (arith, lin x, unifier_all_binds ts us b q x))) in
      let ts-is : fill_all (bound c) ts ≡ fill_all (bound b) ts = fill_all_ext (bound c) (bound b) ts (λ x j. bound_right x a b (omega (arith, lin x, unifier_binds t u a p x))) in
      subst (λ z. common_all (cons t ts) (cons u us) ≡ some (fill_all (bound z) (cons t ts))) (sym r) (in_row (common t u) (common_all ts us) (fill (bound c) t) (fill_all (bound c) ts) (h ∙ ap some (sym t-is)) (k ∙ ap some (sym ts-is)))

pub unifier_is_common : UnifierIsCommon
unifier_is_common a b = (none_common a b, some_common a b)
