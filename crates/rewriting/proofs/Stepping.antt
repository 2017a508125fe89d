-- Steps by induction on the term: closed under substitution and at positions, and the same as steps at a position.
use Rattle.std.proofs.Common.{◌≡◌, refl, sym, ◌∙◌, ap, subst, List, [], ◌∷◌, ℕ, zero, suc}
use Rattle.std.proofs.Math.Option.{some}
use Rattle.terms.specs.Term.{Term, variable, instrument, apply, Terms, nil, cons}
use Rattle.terms.specs.Substitution.{Substitution, fill, fill_all}
use Rattle.terms.specs.Position.{Position, part_at, part_in, put_at, put_in}
use Rattle.terms.specs.Rule.{Rule}
use Rattle.rewriting.specs.Rules.{left_of, right_of}
use Rattle.rewriting.specs.Step.{Step}
use Rattle.rewriting.specs.Inductive.{Root, Rewrites, at_root, within, RewritesIn, here, further}
use Rattle.rewriting.specs.Reduction.{Reduces, done}
use Rattle.rewriting.specs.Laws.{StepsFill}
use Rattle.rewriting.proofs.Filling.{fill_fill, none_some, part_root, put_root}
use Rattle.rewriting.proofs.Reducing.{reduces_map, reduces_trans}

module _ {rules : List Rule} where
  -- a rule that matches the whole term also does so to the filled one
  pub root_fill : (s : Substitution) {t u : Term} → Root rules t u → Root rules (fill s t) (fill s u)
  root_fill s r = record {
    rule = r.rule;
    known = r.known;
    substitution = λ x. fill s (r.substitution x);
    before = ap (fill s) r.before ∙ fill_fill s r.substitution (left_of rules r.rule);
    after = ap (fill s) r.after ∙ fill_fill s r.substitution (right_of rules r.rule);
  }

  mutual
    pub rewrites_fill : (s : Substitution) {t u : Term} → Rewrites rules t u → Rewrites rules (fill s t) (fill s u)
    rewrites_fill s (at_root r) = at_root (root_fill s r)
    rewrites_fill s (within r) = within (rewrites_in_fill s r)

    pub rewrites_in_fill : (s : Substitution) {ts us : Terms} → RewritesIn rules ts us → RewritesIn rules (fill_all s ts) (fill_all s us)
    rewrites_in_fill s (here r) = here (rewrites_fill s r)
    rewrites_in_fill s (further r) = further (rewrites_in_fill s r)

  pub reduces_fill : (s : Substitution) {t u : Term} → Reduces (Rewrites rules) t u → Reduces (Rewrites rules) (fill s t) (fill s u)
  reduces_fill s = reduces_map (fill s) (λ a b r. rewrites_fill s r)

  -- steps of the parts are steps of the whole
  pub under_apply : (f : ℕ) {ts us : Terms} → Reduces (RewritesIn rules) ts us → Reduces (Rewrites rules) (apply f ts) (apply f us)
  under_apply f = reduces_map (apply f) (λ a b r. within r)

  pub under_cons : {t u : Term} {ts us : Terms} → Reduces (Rewrites rules) t u → Reduces (RewritesIn rules) ts us → Reduces (RewritesIn rules) (cons t ts) (cons u us)
  under_cons {t} {u} {ts} {us} p q = reduces_trans (reduces_map (λ x. cons x ts) (λ a b r. here r) p) (reduces_map (cons u) (λ a b r. further r) q)

  -- where what fills each variable reduces, so does the filled term
  mutual
    pub reduces_substitutions : {s s' : Substitution} → ((x : ℕ) → Reduces (Rewrites rules) (s x) (s' x)) → (t : Term) → Reduces (Rewrites rules) (fill s t) (fill s' t)
    reduces_substitutions h (variable x) = h x
    reduces_substitutions h (instrument n) = done
    reduces_substitutions h (apply f ts) = under_apply f (reduces_all_substitutions h ts)

    pub reduces_all_substitutions : {s s' : Substitution} → ((x : ℕ) → Reduces (Rewrites rules) (s x) (s' x)) → (ts : Terms) → Reduces (RewritesIn rules) (fill_all s ts) (fill_all s' ts)
    reduces_all_substitutions h nil = done
    reduces_all_substitutions h (cons t ts) = under_cons (reduces_substitutions h t) (reduces_all_substitutions h ts)

  -- a step at a position is one by induction, and the reverse
  mutual
    pub position_rewrites : (t : Term) (p : Position) {b c : Term} → part_at t p ≡ some b → Root rules b c → Rewrites rules t (put_at t p c)
    position_rewrites (variable y) [] {b} {c} e r = let q : b ≡ variable y = cc in at_root (subst (λ z. Root rules z c) q r)
    position_rewrites (variable y) (k ∷ p) e r = absurd (none_some e)
    position_rewrites (instrument n) [] {b} {c} e r = let q : b ≡ instrument n = cc in at_root (subst (λ z. Root rules z c) q r)
    position_rewrites (instrument n) (k ∷ p) e r = absurd (none_some e)
    position_rewrites (apply f ts) [] {b} {c} e r = let q : b ≡ apply f ts = cc in at_root (subst (λ z. Root rules z c) q r)
    position_rewrites (apply f ts) (k ∷ p) e r = within (position_rewrites_in ts k p e r)

    pub position_rewrites_in : (ts : Terms) (k : ℕ) (p : Position) {b c : Term} → part_in ts k p ≡ some b → Root rules b c → RewritesIn rules ts (put_in ts k p c)
    position_rewrites_in nil k p e r = absurd (none_some e)
    position_rewrites_in (cons t ts) zero p e r = here (position_rewrites t p e r)
    position_rewrites_in (cons t ts) (suc k) p e r = further (position_rewrites_in ts k p e r)

  pub step_rewrites : {t u : Term} → Step rules t u → Rewrites rules t u
  step_rewrites {t} {u} a =
      subst (Rewrites rules t) (sym a.step.after) (position_rewrites t a.position a.step.before (record { rule = a.rule; known = a.known; substitution = a.step.substitution; before = refl; after = refl }))

  -- a rule that matches a part
  at_part : {t u : Term} (p : Position) {b c : Term} → part_at t p ≡ some b → Root rules b c → u ≡ put_at t p c → Step rules t u
  at_part {t} p e r q = record { rule = r.rule; known = r.known; position = p; step = record { substitution = r.substitution; before = e ∙ ap some r.before; after = q ∙ ap (put_at t p) r.after } }

  mutual
    rewrites_at : {t u : Term} → Rewrites rules t u → (p : Position) × (b : Term) × (c : Term) × (part_at t p ≡ some b) × Root rules b c × (u ≡ put_at t p c)
    rewrites_at {t} {u} (at_root r) = ([], t, u, part_root t, r, sym (put_root t u))
    rewrites_at (within {f} {ts} {us} r) = let (k, p, b, c, e, r', q) = rewrites_in_at r in (k ∷ p, b, c, e, r', ap (apply f) q)

    rewrites_in_at : {ts us : Terms} → RewritesIn rules ts us → (k : ℕ) × (p : Position) × (b : Term) × (c : Term) × (part_in ts k p ≡ some b) × Root rules b c × (us ≡ put_in ts k p c)
    rewrites_in_at (here {t} {u} {ts} r) = let (p, b, c, e, r', q) = rewrites_at r in (0, p, b, c, e, r', λ i. cons (q i) ts)
    rewrites_in_at (further {t} r) = let (k, p, b, c, e, r', q) = rewrites_in_at r in (suc k, p, b, c, e, r', λ i. cons t (q i))

  pub rewrites_step : {t u : Term} → Rewrites rules t u → Step rules t u
  rewrites_step r = let (p, b, c, e, r', q) = rewrites_at r in at_part p e r' q

pub steps_fill : StepsFill
steps_fill rules σ t u a = rewrites_step (rewrites_fill σ (step_rewrites a))
