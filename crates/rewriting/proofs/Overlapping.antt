-- Renaming apart, and what an overlap's sides come from.
use Rattle.std.proofs.Common.{◌≡◌, refl, sym, ◌∙◌, ap, List, [], ◌∷◌, ℕ, zero, suc, ◌+◌, ◌-◌, ◌%◌, ◌<◌, ◌≤◌, arith}
use Rattle.std.proofs.Math.Option.{some}
use Rattle.std.proofs.Math.Decide.{dec_lt}
use Rattle.std.proofs.lemmas.Bool.Decides.{nat_tests}
use Rattle.terms.specs.Term.{Term, variable, instrument, apply, Terms, nil, cons}
use Rattle.terms.specs.Signature.{Sig}
use Rattle.terms.specs.Ticket.{TermOf, TermsOf}
use Rattle.terms.specs.Substitution.{Substitution, fill, fill_all, occurrences, occurrences_in, renamed}
use Rattle.terms.specs.Position.{Position, part_at, part_in, put_at}
use Rattle.terms.specs.Rule.{Rule, RuleOf}
use Rattle.rewriting.specs.Rules.{rule_at, left_of, right_of, RulesOf}
use Rattle.rewriting.specs.Bindings.{Bindings, bound}
use Rattle.rewriting.specs.Unifier.{Separate, Overlap}
use Rattle.rewriting.specs.Laws.{RenamedApart, UnifierUnifies, UnifierIsMostGeneral, OverlapsAreSteps}
use Rattle.rewriting.proofs.Filling.{fill_fill, fill_ext, none_some, part_root, put_root, put_fill}
use Rattle.rewriting.proofs.UnifierGeneral.{unifier_general, bound_holds}
use Rattle.rewriting.proofs.UnifierSound.{unifier_sound}
use Rattle.rewriting.proofs.Tickets.{small}

-- how often a variable stands in a renamed term: below 8 not at all, and else as often as eight lower
mutual
  renamed_low : (sig : Sig) (t : Term) → TermOf sig t → (x : ℕ) → x < 8 → occurrences x (renamed t) ≡ 0
  renamed_low sig (variable y) h x k = grind (arith, nat_tests)
  renamed_low sig (instrument n) h x k = refl
  renamed_low sig (apply f ts) h x k = renamed_all_low sig ts h.2 x k

  renamed_all_low : (sig : Sig) (ts : Terms) → TermsOf sig ts → (x : ℕ) → x < 8 → occurrences_in x (fill_all (λ y. variable ((y + 8) % 16)) ts) ≡ 0
  renamed_all_low sig nil h x k = refl
  renamed_all_low sig (cons t ts) h x k = let a = renamed_low sig t h.0 x k in let b = renamed_all_low sig ts h.1 x k in omega arith

mutual
  renamed_high : (sig : Sig) (t : Term) → TermOf sig t → (x : ℕ) → 8 ≤ x → occurrences x (renamed t) ≤ occurrences (x - 8) t
  renamed_high sig (variable y) h x k = grind (arith, nat_tests)
  renamed_high sig (instrument n) h x k = omega arith
  renamed_high sig (apply f ts) h x k = renamed_all_high sig ts h.2 x k

  renamed_all_high : (sig : Sig) (ts : Terms) → TermsOf sig ts → (x : ℕ) → 8 ≤ x → occurrences_in x (fill_all (λ y. variable ((y + 8) % 16)) ts) ≤ occurrences_in (x - 8) ts
  renamed_all_high sig nil h x k = omega arith
  renamed_all_high sig (cons t ts) h x k = let a = renamed_high sig t h.0 x k in let b = renamed_all_high sig ts h.1 x k in omega arith

pub renamed_apart : RenamedApart
renamed_apart sig s t h k x j = renamed_low sig t k x (small sig s h x j)

-- a part has no more of a variable than the whole
mutual
  part_fewer : (t : Term) (p : Position) {b : Term} → part_at t p ≡ some b → (x : ℕ) → occurrences x b ≤ occurrences x t
  part_fewer (variable y) [] {b} e x = let q : b ≡ variable y = cc in rw q (omega arith)
  part_fewer (variable y) (k ∷ p) e x = absurd (none_some e)
  part_fewer (instrument n) [] {b} e x = let q : b ≡ instrument n = cc in rw q (omega arith)
  part_fewer (instrument n) (k ∷ p) e x = absurd (none_some e)
  part_fewer (apply f ts) [] {b} e x = let q : b ≡ apply f ts = cc in rw q (omega arith)
  part_fewer (apply f ts) (k ∷ p) e x = part_fewer_in ts k p e x

  part_fewer_in : (ts : Terms) (k : ℕ) (p : Position) {b : Term} → part_in ts k p ≡ some b → (x : ℕ) → occurrences x b ≤ occurrences_in x ts
  part_fewer_in nil k p e x = absurd (none_some e)
  part_fewer_in (cons t ts) zero p e x = let a = part_fewer t p e x in omega arith
  part_fewer_in (cons t ts) (suc k) p e x = let a = part_fewer_in ts k p e x in omega arith

-- to fill and to take a part commute
mutual
  part_fill : (s : Substitution) (t : Term) (p : Position) {b : Term} → part_at t p ≡ some b → part_at (fill s t) p ≡ some (fill s b)
  part_fill s (variable y) [] {b} e = let q : b ≡ variable y = cc in rw q (part_root (s y))
  part_fill s (variable y) (k ∷ p) e = absurd (none_some e)
  part_fill s (instrument n) [] {b} e = let q : b ≡ instrument n = cc in rw q refl
  part_fill s (instrument n) (k ∷ p) e = absurd (none_some e)
  part_fill s (apply f ts) [] {b} e = let q : b ≡ apply f ts = cc in rw q refl
  part_fill s (apply f ts) (k ∷ p) e = part_in_filled s ts k p e

  part_in_filled : (s : Substitution) (ts : Terms) (k : ℕ) (p : Position) {b : Term} → part_in ts k p ≡ some b → part_in (fill_all s ts) k p ≡ some (fill s b)
  part_in_filled s nil k p e = absurd (none_some e)
  part_in_filled s (cons t ts) zero p e = part_fill s t p e
  part_in_filled s (cons t ts) (suc k) p e = part_in_filled s ts k p e

-- the two that an overlap unifies are separate
separate : {sig : Sig} {rules : List Rule} → RulesOf sig rules → (outer inner : ℕ) {p : Position} {m : Bindings} (o : Overlap rules outer inner p m) → Separate o.part (renamed (left_of rules inner))
separate {sig} {rules} over outer inner {p} o x = go (dec_lt x 8)
  where
    fewer : occurrences x o.part ≤ occurrences x (left_of rules outer)
    fewer = part_fewer (left_of rules outer) p o.stands x

    out : RuleOf sig (rule_at rules outer)
    out = over outer o.outer_known

    inn : RuleOf sig (rule_at rules inner)
    inn = over inner o.inner_known

    few : occurrences x (left_of rules outer) ≤ 1
    few = out.linear x

    go : Dec (x < 8) → occurrences x o.part + occurrences x (renamed (left_of rules inner)) ≤ 1
    go (yes h) = let a = renamed_low sig (left_of rules inner) inn.left_term x h in omega (arith, fewer, few)
    go (no h) =
        let a = renamed_high sig (left_of rules inner) inn.left_term x (omega arith) in
        let b = inn.linear (x - 8) in
        let c = none_high (occurrences x (left_of rules outer)) (λ k. h (small sig (left_of rules outer) out.left_term x k)) in
        omega (arith, fewer)
      where
        none_high : (n : ℕ) → (1 ≤ n → ⊥) → n ≡ 0
        none_high zero k = refl
        none_high (suc n) k = absurd (k (omega arith))

pub unifier_unifies : UnifierUnifies
unifier_unifies a b m h e = unifier_sound a b m h e

pub unifier_most_general : UnifierIsMostGeneral
unifier_most_general a b σ e =
    let (m, k, h) = unifier_general σ a b e in
    (m, k, λ t. fill_fill σ (bound m) t ∙ fill_ext (λ x. fill σ (bound m x)) σ t (λ x _. bound_holds σ m h x))

pub overlaps_are_steps : OverlapsAreSteps
overlaps_are_steps sig rules over outer inner p m o =
    let σ = bound m in
    let l = left_of rules outer in
    let same : fill σ o.part ≡ fill σ (renamed (left_of rules inner)) = unifier_sound o.part (renamed (left_of rules inner)) m (separate over outer inner o) o.unified in
    let left : fill σ (renamed (left_of rules inner)) ≡ fill τ (left_of rules inner) = fill_fill σ (λ x. variable ((x + 8) % 16)) (left_of rules inner) in
    let right : fill σ (renamed (right_of rules inner)) ≡ fill τ (right_of rules inner) = fill_fill σ (λ x. variable ((x + 8) % 16)) (right_of rules inner) in (
      record { rule = outer; known = o.outer_known; position = []; step = record { substitution = σ; before = part_root (fill σ l); after = sym (put_root (fill σ l) (fill σ (right_of rules outer))) } },
      record {
        rule = inner;
        known = o.inner_known;
        position = p;
        step = record { substitution = τ; before = part_fill σ l p o.stands ∙ ap some (same ∙ left); after = put_fill σ l p o.part (renamed (right_of rules inner)) o.stands ∙ ap (put_at (fill σ l) p) right };
      },
    )
  where
    τ : Substitution
    τ x = bound m ((x + 8) % 16)
