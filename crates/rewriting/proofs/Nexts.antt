-- The function gives the next step and nothing else, and none exactly if no rule matches anywhere.
use Rattle.std.proofs.Common.{◌≡◌, refl, sym, ◌∙◌, ap, subst, List, [], ◌∷◌, ◌⊎◌, inl, inr, ℕ, zero, suc, ◌<◌, length, arith}
use Rattle.std.proofs.Math.Option.{Option, none, some}
use Rattle.std.proofs.Math.Decide.{dec_lt}
use Rattle.terms.specs.Term.{Term, variable, instrument, apply, Terms, nil, cons}
use Rattle.terms.specs.Signature.{Sig}
use Rattle.terms.specs.Substitution.{fill}
use Rattle.terms.specs.Position.{Position, part_at, part_in, put_at, put_in}
use Rattle.terms.specs.Rule.{Rule, RuleOf}
use Rattle.rewriting.specs.Rules.{rule_at, RulesOf, Matches, SomeMatches, MatchesNowhere}
use Rattle.rewriting.specs.Step.{Step, StepAt}
use Rattle.rewriting.specs.Inductive.{Root}
use Rattle.rewriting.specs.Reduction.{Normal}
use Rattle.rewriting.specs.Bindings.{Bindings, bound}
use Rattle.rewriting.specs.Next.{Before, NextStep, matching, contracted, next, next_in}
use Rattle.rewriting.specs.Laws.{NextIsNextStep, OneNextStep, NoNextStep}
use Rattle.rewriting.proofs.Filling.{fill_ext, fill_inj, none_some, part_root, put_root}
use Rattle.rewriting.proofs.Matching.{matching_sound, matching_complete}

-- ---- the lowest-numbered rule that matches the whole term

record Lowest (rules : List Rule) (t u : Term) : Type 0 where
  root : Root rules t u
  lowest : (k : ℕ) → k < root.rule → Matches (rule_at rules k) t → ⊥

contracted_lowest : (sig : Sig) (rules : List Rule) → RulesOf sig rules → (t u : Term) → contracted rules t ≡ some u → Lowest rules t u
contracted_lowest sig [] over t u e = absurd (none_some e)
contracted_lowest sig (r ∷ rules) over t u e = go (contracted_lowest sig rules (λ k h. over (suc k) (omega arith)) t u) (matching r.left t) refl e
  where
    go : (contracted rules t ≡ some u → Lowest rules t u) → (o : Option Bindings) → matching r.left t ≡ o → (elim o as (λ _. Option Term) [ none ↦ contracted rules t | some m ↦ some (fill (bound m) r.right) ]) ≡ some u → Lowest (r ∷ rules) t u
    go rec none q e = later (rec e)
      where
        later : Lowest rules t u → Lowest (r ∷ rules) t u
        later a =
            let known = a.root.known in
            record { root = record { rule = suc a.root.rule; known = omega arith; substitution = a.root.substitution; before = a.root.before; after = a.root.after }; lowest = below }
          where
            below : (k : ℕ) → k < suc a.root.rule → Matches (rule_at (r ∷ rules) k) t → ⊥
            below zero h w = let (m, j) = matching_complete w.0 r.left t (sym w.1) in none_some (sym q ∙ j)
            below (suc k) h w = a.lowest k (omega arith) w
    go rec (some m) q e =
        let known : 0 < suc (length rules) = omega arith in
        record { root = record { rule = 0; known = known; substitution = bound m; before = sym (matching_sound r.left t m (over 0 known).linear q); after = cc }; lowest = λ k h w. omega arith }

contracted_none : (rules : List Rule) (t : Term) → contracted rules t ≡ none → SomeMatches rules t → ⊥
contracted_none [] t e w = let h = w.1 in omega arith
contracted_none (r ∷ rules) t e w = go (contracted_none rules t) (matching r.left t) refl e w.0 w.1 w.2
  where
    go : (contracted rules t ≡ none → SomeMatches rules t → ⊥) → (o : Option Bindings) → matching r.left t ≡ o → (elim o as (λ _. Option Term) [ none ↦ contracted rules t | some m ↦ some (fill (bound m) r.right) ]) ≡ none
        → (k : ℕ) → k < length (r ∷ rules) → Matches (rule_at (r ∷ rules) k) t → ⊥
    go rec (some m) o e k h w = none_some (sym e)
    go rec none o e zero h w = let (m, j) = matching_complete w.0 r.left t (sym w.1) in none_some (sym o ∙ j)
    go rec none o e (suc k) h w = rec e (k, omega arith, w)

-- ---- no next step

module _ (rules : List Rule) where
  whole : {t b : Term} → contracted rules t ≡ none → some t ≡ some b → SomeMatches rules b → ⊥
  whole {t} {b} e q w = let z : b ≡ t = cc in contracted_none rules t e (subst (SomeMatches rules) z w)

  mutual
    pub next_none : (t : Term) → next rules t ≡ none → (p : Position) {b : Term} → part_at t p ≡ some b → SomeMatches rules b → ⊥
    next_none (variable x) e [] q w = whole e q w
    next_none (variable x) e (k ∷ p) q w = none_some q
    next_none (instrument n) e [] q w = whole e q w
    next_none (instrument n) e (k ∷ p) q w = none_some q
    next_none (apply f ts) e p {b} q w = go (λ o i p. next_in_none ts o i p) (next_in rules ts) refl e p q
      where
        go : (next_in rules ts ≡ none → (i : ℕ) (p : Position) → part_in ts i p ≡ some b → SomeMatches rules b → ⊥) → (o : Option Terms) → next_in rules ts ≡ o
            → (elim o as (λ _. Option Term) [ none ↦ contracted rules (apply f ts) | some us ↦ some (apply f us) ]) ≡ none → (p : Position) → part_at (apply f ts) p ≡ some b → ⊥
        go rec (some us) o e p q = none_some (sym e)
        go rec none o e [] q = whole e q w
        go rec none o e (i ∷ p) q = rec o i p q w

    pub next_in_none : (ts : Terms) → next_in rules ts ≡ none → (i : ℕ) (p : Position) {b : Term} → part_in ts i p ≡ some b → SomeMatches rules b → ⊥
    next_in_none nil e i p q w = none_some q
    next_in_none (cons t ts) e i p {b} q w = go (λ o p. next_none t o p) (λ o i p. next_in_none ts o i p) (next rules t) refl (next_in rules ts) refl e i q
      where
        go : (next rules t ≡ none → (p : Position) → part_at t p ≡ some b → SomeMatches rules b → ⊥) → (next_in rules ts ≡ none → (i : ℕ) (p : Position) → part_in ts i p ≡ some b → SomeMatches rules b → ⊥)
            → (o : Option Term) → next rules t ≡ o → (n : Option Terms) → next_in rules ts ≡ n
            → (elim o as (λ _. Option Terms) [ none ↦ elim n [ none ↦ none | some vs ↦ some (cons t vs) ] | some u ↦ some (cons u ts) ]) ≡ none → (i : ℕ) → part_in (cons t ts) i p ≡ some b → ⊥
        go one all (some u) o n k e i q = none_some (sym e)
        go one all none o (some vs) k e i q = none_some (sym e)
        go one all none o none k e zero q = one o p q w
        go one all none o none k e (suc i) q = all k i p q w

-- ---- the next step that the function gives

abbrev Clear : List Rule → Term → Type 0
Clear rules t = (i : ℕ) (q : Position) (b : Term) → part_at t (i ∷ q) ≡ some b → SomeMatches rules b → ⊥

record Found (rules : List Rule) (t u : Term) : Type 0 where
  position : Position
  part : Term
  new : Term
  stands : part_at t position ≡ some part
  chosen : Lowest rules part new
  clear : Clear rules part
  first : (q : Position) (b : Term) → Before q position → part_at t q ≡ some b → SomeMatches rules b → Clear rules b → ⊥
  result : u ≡ put_at t position new

record FoundIn (rules : List Rule) (ts us : Terms) : Type 0 where
  index : ℕ
  position : Position
  part : Term
  new : Term
  stands : part_in ts index position ≡ some part
  chosen : Lowest rules part new
  clear : Clear rules part
  first : (i : ℕ) (q : Position) (b : Term) → (i < index) ⊎ ((i ≡ index) × Before q position) → part_in ts i q ≡ some b → SomeMatches rules b → Clear rules b → ⊥
  result : us ≡ put_in ts index position new

root_matches : {rules : List Rule} {t u : Term} → Root rules t u → SomeMatches rules t
root_matches r = (r.rule, r.known, (r.substitution, r.before))

module _ {sig : Sig} {rules : List Rule} (over : RulesOf sig rules) where
  found_whole : (t u : Term) → contracted rules t ≡ some u → Clear rules t → Found rules t u
  found_whole t u e clear =
      record { position = []; part = t; new = u; stands = part_root t; chosen = contracted_lowest sig rules over t u e; clear = clear; first = λ q b k _ _ _. nothing q k; result = sym (put_root t u) }
    where
      nothing : (q : Position) → Before q [] → ⊥
      nothing [] k = k
      nothing (i ∷ q) k = k

  found_apply : (f : ℕ) {ts us : Terms} → FoundIn rules ts us → Found rules (apply f ts) (apply f us)
  found_apply f {ts} a =
      record { position = a.index ∷ a.position; part = a.part; new = a.new; stands = a.stands; chosen = a.chosen; clear = a.clear; first = first; result = ap (apply f) a.result }
    where
      first : (q : Position) (b : Term) → Before q (a.index ∷ a.position) → part_at (apply f ts) q ≡ some b → SomeMatches rules b → Clear rules b → ⊥
      first [] b k e w clear = let q : b ≡ apply f ts = cc in subst (Clear rules) q clear a.index a.position a.part a.stands (root_matches a.chosen.root)
      first (i ∷ q) b k e w clear = a.first i q b k e w clear

  found_here : {t u : Term} (ts : Terms) → Found rules t u → FoundIn rules (cons t ts) (cons u ts)
  found_here {t} ts a =
      record { index = 0; position = a.position; part = a.part; new = a.new; stands = a.stands; chosen = a.chosen; clear = a.clear; first = first; result = λ i. cons (a.result i) ts }
    where
      first : (i : ℕ) (q : Position) (b : Term) → (i < 0) ⊎ ((i ≡ 0) × Before q a.position) → part_in (cons t ts) i q ≡ some b → SomeMatches rules b → Clear rules b → ⊥
      first zero q b (inl h) e w clear = omega arith
      first zero q b (inr h) e w clear = a.first q b h.1 e w clear
      first (suc i) q b (inl h) e w clear = omega arith
      first (suc i) q b (inr h) e w clear = let j = h.0 in omega arith

  found_further : (t : Term) {ts us : Terms} → next rules t ≡ none → FoundIn rules ts us → FoundIn rules (cons t ts) (cons t us)
  found_further t {ts} free a =
      record { index = suc a.index; position = a.position; part = a.part; new = a.new; stands = a.stands; chosen = a.chosen; clear = a.clear; first = first; result = ap (cons t) a.result }
    where
      first : (i : ℕ) (q : Position) (b : Term) → (i < suc a.index) ⊎ ((i ≡ suc a.index) × Before q a.position) → part_in (cons t ts) i q ≡ some b → SomeMatches rules b → Clear rules b → ⊥
      first zero q b h e w clear = next_none rules t free q e w
      first (suc i) q b (inl h) e w clear = a.first i q b (inl (omega arith)) e w clear
      first (suc i) q b (inr h) e w clear = let j = h.0 in a.first i q b (inr (omega arith, h.1)) e w clear

  mutual
    found : (t u : Term) → next rules t ≡ some u → Found rules t u
    found (variable x) u e = found_whole (variable x) u e (λ i q b k w. none_some k)
    found (instrument n) u e = found_whole (instrument n) u e (λ i q b k w. none_some k)
    found (apply f ts) u e = go (λ us q. found_in ts us q) (next_in rules ts) refl e
      where
        go : ((us : Terms) → next_in rules ts ≡ some us → FoundIn rules ts us) → (o : Option Terms) → next_in rules ts ≡ o → (elim o as (λ _. Option Term) [ none ↦ contracted rules (apply f ts) | some us ↦ some (apply f us) ]) ≡ some u → Found rules (apply f ts) u
        go rec none q e = found_whole (apply f ts) u e (λ i p b k w. next_in_none rules ts q i p k w)
        go rec (some us) q e = let w : apply f us ≡ u = cc in subst (Found rules (apply f ts)) w (found_apply f (rec us q))

    found_in : (ts us : Terms) → next_in rules ts ≡ some us → FoundIn rules ts us
    found_in nil us e = absurd (none_some e)
    found_in (cons t ts) us e = go (λ u q. found t u q) (λ vs q. found_in ts vs q) (next rules t) refl (next_in rules ts) refl e
      where
        go : ((u : Term) → next rules t ≡ some u → Found rules t u) → ((vs : Terms) → next_in rules ts ≡ some vs → FoundIn rules ts vs) → (o : Option Term) → next rules t ≡ o → (n : Option Terms) → next_in rules ts ≡ n
            → (elim o as (λ _. Option Terms) [ none ↦ elim n [ none ↦ none | some vs ↦ some (cons t vs) ] | some u ↦ some (cons u ts) ]) ≡ some us → FoundIn rules (cons t ts) us
        go one all (some u) o n k e = let w : cons u ts ≡ us = cc in subst (FoundIn rules (cons t ts)) w (found_here ts (one u o))
        go one all none o (some vs) k e = let w : cons t vs ≡ us = cc in subst (FoundIn rules (cons t ts)) w (found_further t o (all vs k))
        go one all none o none k e = absurd (none_some e)

  pub next_some : (t u : Term) → next rules t ≡ some u → NextStep rules t u
  next_some t u e =
      let a = found t u e in
      let r = a.chosen.root in
      record {
        position = a.position;
        innermost = record { part = a.part; stands = a.stands; matched = root_matches r; clear = a.clear };
        first = λ q k b. a.first q b.part k b.stands b.matched b.clear;
        rule = r.rule;
        known = r.known;
        lowest = a.chosen.lowest;
        step = record { substitution = r.substitution; before = a.stands ∙ ap some r.before; after = a.result ∙ ap (put_at t a.position) r.after };
      }

-- ---- there is one next step

pub next_step : {rules : List Rule} {t u : Term} → NextStep rules t u → Step rules t u
next_step a = record { rule = a.rule; known = a.known; position = a.position; step = a.step }

-- two positions are the same, or one comes before the other
compare : (p q : Position) → Before p q ⊎ ((p ≡ q) ⊎ Before q p)
compare [] [] = inr (inl refl)
compare [] (k ∷ q) = inl tt
compare (i ∷ p) [] = inr (inr tt)
compare (i ∷ p) (k ∷ q) = go (dec_lt i k) (dec_lt k i) (compare p q)
  where
    go : Dec (i < k) → Dec (k < i) → Before p q ⊎ ((p ≡ q) ⊎ Before q p) → Before (i ∷ p) (k ∷ q) ⊎ ((i ∷ p ≡ k ∷ q) ⊎ Before (k ∷ q) (i ∷ p))
    go (yes h) o c = inl (inl h)
    go (no h) (yes o) c = inr (inr (inl o))
    go (no h) (no o) (inl c) = inl (inr (omega arith, c))
    go (no h) (no o) (inr (inl c)) = let e : i ≡ k = omega arith in inr (inl (λ j. e j ∷ c j))
    go (no h) (no o) (inr (inr c)) = inr (inr (inr (omega arith, c)))

nowhere_normal : {rules : List Rule} {t : Term} → MatchesNowhere rules t → Normal (Step rules) t
nowhere_normal h u a = h a.position (fill a.step.substitution (rule_at _ a.rule).left) a.step.before (a.rule, a.known, (a.step.substitution, refl))

some_inj : {A : Type 0} {a b : A} → some a ≡ some b → a ≡ b
some_inj e = cc

-- what a rule makes of a part is fixed
same_result : (r : Rule) {sig : Sig} → RuleOf sig r → (t : Term) (p : Position) {u v : Term} → StepAt r p t u → StepAt r p t v → u ≡ v
same_result r rule t p a b =
    let e : fill a.substitution r.left ≡ fill b.substitution r.left = some_inj (sym a.before ∙ b.before) in
    let w : fill a.substitution r.right ≡ fill b.substitution r.right = fill_ext a.substitution b.substitution r.right (λ x j. fill_inj a.substitution b.substitution r.left e x (rule.bound x j)) in
    a.after ∙ ap (put_at t p) w ∙ sym b.after

module _ {sig : Sig} {rules : List Rule} (over : RulesOf sig rules) where
  pub one_next : (t u v : Term) → NextStep rules t u → NextStep rules t v → u ≡ v
  one_next t u v a b = elim (compare a.position b.position) [
    | inl h ↦ absurd (b.first a.position h a.innermost)
    | inr c ↦ elim c [
      | inl e ↦ at e
      | inr h ↦ absurd (a.first b.position h b.innermost)
    ]
  ]
    where
      at : a.position ≡ b.position → u ≡ v
      at e = go (dec_lt a.rule b.rule) (dec_lt b.rule a.rule)
        where
          parts : a.innermost.part ≡ b.innermost.part
          parts = some_inj (sym a.innermost.stands ∙ ap (part_at t) e ∙ b.innermost.stands)

          go : Dec (a.rule < b.rule) → Dec (b.rule < a.rule) → u ≡ v
          go (yes h) o = absurd (b.lowest a.rule h (subst (Matches (rule_at rules a.rule)) parts (a.step.substitution, some_inj (sym a.innermost.stands ∙ a.step.before))))
          go (no h) (yes o) = absurd (a.lowest b.rule o (subst (Matches (rule_at rules b.rule)) (sym parts) (b.step.substitution, some_inj (sym b.innermost.stands ∙ b.step.before))))
          go (no h) (no o) =
              let k : a.rule ≡ b.rule = omega arith in
              let s : StepAt (rule_at rules b.rule) b.position t u = subst (λ z. StepAt (rule_at rules b.rule) z t u) e (subst (λ z. StepAt (rule_at rules z) a.position t u) k a.step) in
              same_result (rule_at rules b.rule) (over b.rule b.known) t b.position s b.step

  pub next_given : (t u : Term) → NextStep rules t u → next rules t ≡ some u
  next_given t u a = go (next rules t) refl
    where
      go : (o : Option Term) → next rules t ≡ o → o ≡ some u
      go none e = absurd (next_none rules t e a.position a.innermost.stands a.innermost.matched)
      go (some v) e = ap some (one_next t v u (next_some over t v e) a)

  pub none_normal : (t : Term) → next rules t ≡ none → Normal (Step rules) t
  none_normal t e = nowhere_normal (λ p b q w. next_none rules t e p q w)

  pub normal_none : (t : Term) → Normal (Step rules) t → next rules t ≡ none
  normal_none t h = go (next rules t) refl
    where
      go : (o : Option Term) → next rules t ≡ o → o ≡ none
      go none e = refl
      go (some v) e = absurd (h v (next_step (next_some over t v e)))

pub next_is_next_step : NextIsNextStep
next_is_next_step sig rules over t u = (next_some over t u, next_given over t u)

pub one_next_step : OneNextStep
one_next_step sig rules over t u v = one_next over t u v

pub no_next_step : NoNextStep
no_next_step sig rules over t = (λ e p b q w. next_none rules t e p q w, nowhere_normal, normal_none over t)
