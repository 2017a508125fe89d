-- The critical pair lemma: where every overlap joins, every peak joins.
use Rattle.std.proofs.Common.{◌≡◌, refl, sym, ◌∙◌, ap, subst, List, [], ◌∷◌, Bool, true, false, cond, ℕ, ◌+◌, ◌%◌, ◌<◌, ◌≤◌, ◌==◌, length, arith, eqb-true}
use Rattle.std.proofs.Math.Option.{some}
use Rattle.terms.specs.Term.{Term, variable, apply, Terms, cons}
use Rattle.terms.specs.Substitution.{Substitution, fill, occurrences, renamed}
use Rattle.terms.specs.Position.{Position, part_at, put_at}
use Rattle.terms.specs.Rule.{Rule, RuleOf}
use Rattle.rewriting.specs.Rules.{rule_at, left_of, right_of, RulesOf}
use Rattle.rewriting.specs.Step.{Step}
use Rattle.rewriting.specs.Inductive.{Root, Rewrites, at_root, within, RewritesIn, here, further}
use Rattle.rewriting.specs.Reduction.{Reduces, done, Joinable}
use Rattle.rewriting.specs.Bindings.{bound}
use Rattle.rewriting.specs.Unifier.{IsVariable, Overlap}
use Rattle.rewriting.proofs.Filling.{fill_ext, fill_fill, fill_inj, updated, part_root, put_root, part_occurs, put_fill}
use Rattle.rewriting.proofs.Reducing.{reduces_map, one_step, join_sym}
use Rattle.rewriting.proofs.Stepping.{reduces_fill, under_apply, under_cons, reduces_substitutions, step_rewrites}
use Rattle.rewriting.proofs.UnifierGeneral.{unifier_general, bound_holds}
use Rattle.rewriting.proofs.Finding.{Found, in_substitution, at_position, find}
use Rattle.rewriting.proofs.Tickets.{small}
use Rattle.rewriting.specs.Convergent.{OverlapsJoin}
use Rattle.std.proofs.Common.{nat_lt, lt-ltb, le-ltb}
use Rattle.std.proofs.Math.Decide.{ℕ_discrete}
use Rattle.terms.specs.Signature.{Sig}

-- one substitution for the outer variables, below 8, and another for the renamed inner ones
abbrev pub mix : Substitution → Substitution → Substitution
mix s s' x = cond (nat_lt x 8) (s x) (s' ((x + 8) % 16))

pub mix_low : (s s' : Substitution) (t : Term) → ((x : ℕ) → 1 ≤ occurrences x t → x < 8) → fill (mix s s') t ≡ fill s t
mix_low s s' t h = fill_ext (mix s s') s t (λ x k. rw (lt-ltb x 8 (h x k)))

pub mix_high : (s s' : Substitution) (t : Term) → ((x : ℕ) → 1 ≤ occurrences x t → x < 8) → fill (mix s s') (renamed t) ≡ fill s' t
mix_high s s' t h = fill_fill (mix s s') (λ x. variable ((x + 8) % 16)) t ∙ fill_ext (λ x. mix s s' ((x + 8) % 16)) s' t at_variable
  where
    at_variable : (x : ℕ) → 1 ≤ occurrences x t → mix s s' ((x + 8) % 16) ≡ s' x
    at_variable x k =
        let low : x < 8 = h x k in
        let high : 8 ≤ (x + 8) % 16 = omega arith in
        let back : ((x + 8) % 16 + 8) % 16 ≡ x = omega arith in
        rw (le-ltb ((x + 8) % 16) 8 high) (ap s' back)

-- a join, filled
pub join_fill : {rules : List Rule} (s : Substitution) {t u : Term} → Joinable (Rewrites rules) t u → Joinable (Rewrites rules) (fill s t) (fill s u)
join_fill s j = (fill s j.0, reduces_fill s j.1, reduces_fill s j.2)

pub join_step : {rules : List Rule} {t u : Term} → Joinable (Step rules) t u → Joinable (Rewrites rules) t u
join_step j = (j.0, reduces_map (λ x. x) (λ a b r. step_rewrites r) j.1, reduces_map (λ x. x) (λ a b r. step_rewrites r) j.2)

pub join_cast : {rules : List Rule} {t t' u u' : Term} → t ≡ t' → u ≡ u' → Joinable (Rewrites rules) t u → Joinable (Rewrites rules) t' u'
join_cast {rules} {t} {t'} {u} {u'} p q j = subst (λ z. Joinable (Rewrites rules) z u') p (subst (λ z. Joinable (Rewrites rules) t z) q j)

module _ {sig : Sig} {rules : List Rule} (good : RulesOf sig rules) (joins : OverlapsJoin rules) where
  -- the inner step is in what fills a variable
  variable_peak : (i : ℕ) → i < length rules → (s : Substitution) (x : ℕ) (v : Term) → Rewrites rules (s x) v → Joinable (Rewrites rules) (fill s (right_of rules i)) (fill (updated s x v) (left_of rules i))
  variable_peak i known s x v r =
      (fill (updated s x v) (right_of rules i), reduces_substitutions (λ y. go y (x == y) refl) (right_of rules i), one_step (at_root (record { rule = i; known = known; substitution = updated s x v; before = refl; after = refl })))
    where
      go : (y : ℕ) (b : Bool) → x == y ≡ b → Reduces (Rewrites rules) (s y) (cond b v (s y))
      go y true e = one_step (subst (λ z. Rewrites rules (s z) v) (eqb-true x y e) r)
      go y false e = done

  -- the inner step is at an overlap
  overlap_peak : (i j : ℕ) → i < length rules → j < length rules → (s s' : Substitution) (p : Position) (b : Term) → part_at (left_of rules i) p ≡ some b → (IsVariable b → ⊥) → (i ≡ j → p ≡ [] → ⊥) → fill s b ≡ fill s' (left_of rules j)
      → Joinable (Rewrites rules) (fill s (right_of rules i)) (put_at (fill s (left_of rules i)) p (fill s' (right_of rules j)))
  overlap_peak i j ki kj s s' p b stands other apart e =
      let σ : Substitution = mix s s' in
      let gi : RuleOf sig (rule_at rules i) = good i ki in
      let gj : RuleOf sig (rule_at rules j) = good j kj in
      let σl : fill σ (left_of rules i) ≡ fill s (left_of rules i) = mix_low s s' (left_of rules i) (small sig (left_of rules i) gi.left_term) in
      let σr : fill σ (right_of rules i) ≡ fill s (right_of rules i) = mix_low s s' (right_of rules i) (λ x k. small sig (left_of rules i) gi.left_term x (gi.bound x k)) in
      let σb : fill σ b ≡ fill s b = mix_low s s' b (λ x k. small sig (left_of rules i) gi.left_term x (part_occurs (left_of rules i) p b stands x k)) in
      let σl' : fill σ (renamed (left_of rules j)) ≡ fill s' (left_of rules j) = mix_high s s' (left_of rules j) (small sig (left_of rules j) gj.left_term) in
      let σr' : fill σ (renamed (right_of rules j)) ≡ fill s' (right_of rules j) = mix_high s s' (right_of rules j) (λ x k. small sig (left_of rules j) gj.left_term x (gj.bound x k)) in
      let (m, met, h) = unifier_general σ b (renamed (left_of rules j)) (σb ∙ e ∙ sym σl') in
      let through : (t : Term) → fill σ (fill (bound m) t) ≡ fill σ t = λ t. fill_fill σ (bound m) t ∙ fill_ext (λ x. fill σ (bound m x)) σ t (λ x k. bound_holds σ m h x) in
      let new : Term = put_at (left_of rules i) p (renamed (right_of rules j)) in
      let q : fill σ new ≡ put_at (fill s (left_of rules i)) p (fill s' (right_of rules j)) = put_fill σ (left_of rules i) p b (renamed (right_of rules j)) stands ∙ (λ k. put_at (σl k) p (σr' k)) in
      let o : Overlap rules i j p m = record { outer_known = ki; inner_known = kj; part = b; stands = stands; no_variable = other; not_itself = apart; unified = met } in
      join_cast (through (right_of rules i) ∙ σr) (through new ∙ q) (join_fill σ (join_step (joins i j p m o)))

  -- a rule with itself at the at_root
  same_root : (i j : ℕ) → i < length rules → i ≡ j → (s s' : Substitution) → fill s (left_of rules i) ≡ fill s' (left_of rules j) → fill s (right_of rules i) ≡ fill s' (right_of rules j)
  same_root i j ki q s s' e =
      let e' : fill s (left_of rules i) ≡ fill s' (left_of rules i) = subst (λ z. fill s (left_of rules i) ≡ fill s' (left_of rules z)) (sym q) e in
      fill_ext s s' (right_of rules i) (λ x k. fill_inj s s' (left_of rules i) e' x ((good i ki).bound x k)) ∙ ap (λ z. fill s' (right_of rules z)) q

  position_peak : (i j : ℕ) → i < length rules → j < length rules → (s s' : Substitution) (p : Position) (b : Term) → part_at (left_of rules i) p ≡ some b → (IsVariable b → ⊥) → fill s b ≡ fill s' (left_of rules j)
      → Joinable (Rewrites rules) (fill s (right_of rules i)) (put_at (fill s (left_of rules i)) p (fill s' (right_of rules j)))
  position_peak i j ki kj s s' (k ∷ p) b stands other e = overlap_peak i j ki kj s s' (k ∷ p) b stands other (λ q z. no_cons z) e
    where
      no_cons : {k : ℕ} {p : Position} → k ∷ p ≡ [] → ⊥
      no_cons z = let w : ◌≡◌ {A = ℕ} 0 1 = cc in omega arith
  position_peak i j ki kj s s' [] b stands other e = go (ℕ_discrete i j)
    where
      go : Dec (i ≡ j) → Joinable (Rewrites rules) (fill s (right_of rules i)) (put_at (fill s (left_of rules i)) [] (fill s' (right_of rules j)))
      go (no n) = overlap_peak i j ki kj s s' [] b stands other (λ q z. n q) e
      go (yes q) =
          let w : some b ≡ some (left_of rules i) = sym stands ∙ part_root (left_of rules i) in
          let b-is : b ≡ left_of rules i = cc in
          let same : fill s (right_of rules i) ≡ fill s' (right_of rules j) = same_root i j ki q s s' (ap (fill s) (sym b-is) ∙ e) in
          join_cast refl (same ∙ sym (put_root (fill s (left_of rules i)) (fill s' (right_of rules j)))) (fill s (right_of rules i), done, done)

  root_peak : {t u v : Term} → Root rules t u → Rewrites rules t v → Joinable (Rewrites rules) u v
  root_peak {t} {u} {v} a r = join_cast (sym a.after) refl (go (find (left_of rules i) (good i a.known).linear (subst (λ z. Rewrites rules z v) a.before r)))
    where
      i : ℕ
      i = a.rule

      s : Substitution
      s = a.substitution

      go : Found rules s (left_of rules i) v → Joinable (Rewrites rules) (fill s (right_of rules i)) v
      go (in_substitution x w h r e) = join_cast refl (sym e) (variable_peak i a.known s x w r)
      go (at_position p b c stands other r e) =
          join_cast refl (ap (put_at (fill s (left_of rules i)) p) (sym r.after) ∙ sym e) (position_peak i r.rule a.known r.known s r.substitution p b stands other r.before)

  mutual
    pub peak : {t u v : Term} → Rewrites rules t u → Rewrites rules t v → Joinable (Rewrites rules) u v
    peak (at_root a) r = root_peak a r
    peak (within a) (at_root b) = join_sym (root_peak b (within a))
    peak (within {f} a) (within b) = let (c, p, q) = peaks a b in (apply f c, under_apply f p, under_apply f q)

    pub peaks : {ts us vs : Terms} → RewritesIn rules ts us → RewritesIn rules ts vs → Joinable (RewritesIn rules) us vs
    peaks (here {ts = ts} a) (here b) = let (c, p, q) = peak a b in (cons c ts, under_cons p done, under_cons q done)
    peaks (here {u = u} a) (further {us = vs} b) = (cons u vs, one_step (further b), one_step (here a))
    peaks (further {us = us} a) (here {u = v} b) = (cons v us, one_step (here b), one_step (further a))
    peaks (further {t} a) (further b) = let (c, p, q) = peaks a b in (cons t c, under_cons done p, under_cons done q)
