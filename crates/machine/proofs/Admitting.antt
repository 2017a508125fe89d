-- What is admitted is convergent, and admission gives one answer.
use Rattle.std.proofs.Common.{◌≡◌, refl, sym, ◌∙◌, ap, subst, Bool, true, false, cond, true≢false, List, length, Some, None, Option, ◌↔◌, ◌⊎◌, inl, inr, ℕ, zero, suc, ◌-◌, ◌<◌, ◌≤◌, nat_le, leb-true, leb-false, arith}
use Rattle.std.proofs.lemmas.Bool.{cond_both}
use Rattle.std.proofs.Math.Decide.{ℕ_discrete, dec_lt}
use Rattle.terms.specs.Term.{Term, symbols, term_discrete}
use Rattle.terms.specs.Signature.{Sig, Declared}
use Rattle.terms.specs.Rule.{Rule}
use Rattle.rewriting.specs.Rules.{rule_at}
use Rattle.rewriting.specs.Next.{run}
use Rattle.rewriting.specs.Unifier.{first_side, second_side}
use Rattle.rewriting.specs.Order.{Relation, OrderLaws, AllIn}
use Rattle.rewriting.specs.Convergent.{OverlapsAgree}
use Rattle.rewriting.proofs.Orders.{tested_converge}
use Rattle.reading.specs.declared.refusal.Refusal.{Refusal}
use Rattle.machine.specs.Refusals.{not_oriented, different_ends, wrong_length}
use Rattle.machine.specs.Admission.{scratch_limit, or_else, first_below, side_reduced, side_end, side_refusal, ends_refusal, sides_refusal, overlaps_refusal, FirstOutside, Admission, no_pool, unoriented, tested, order_refusal, admission}
use Rattle.machine.specs.Laws.{AdmissionDecided, OneAdmission, AdmittedConverge, AdmittedKeep}
use Rattle.machine.proofs.Table.{None_Some}
use Rattle.machine.proofs.Overlapping.{neither, overlaps_tested}
use Rattle.machine.proofs.Whole.{convergent_keep}

-- ends without a refusal are one and the same
same_ends : (outer inner : ℕ) (t u : Term) → ends_refusal outer inner t u ≡ None → t ≡ u
same_ends outer inner t u e = go (term_discrete ℕ_discrete t u) e
  where
    go : (d : Dec (t ≡ u)) → (elim d as (λ _. Option Refusal) [ yes same ↦ None | no differ ↦ Some (different_ends outer inner) ]) ≡ None → t ≡ u
    go (yes q) e = q
    go (no n) e = absurd (None_Some (sym e))

-- so some next steps of each side lead to one term
sides_agree : (rules : List Rule) (nodes outer inner : ℕ) (t u : Term) → sides_refusal rules nodes outer inner t u ≡ None → (n : ℕ) × (k : ℕ) × (run rules n t ≡ run rules k u)
sides_agree rules nodes outer inner t u e =
    let left = nodes - symbols (side_end rules nodes t) in
    let (p, q) = neither (side_refusal rules nodes outer inner t) _ e in
    let (x, y) = neither (side_refusal rules left outer inner u) _ q in
    ((side_reduced rules nodes t).steps, (side_reduced rules left u).steps, same_ends outer inner (side_end rules nodes t) (side_end rules left u) y)

-- every overlap was tested
overlaps_agree : (rules : List Rule) (nodes : ℕ) → overlaps_refusal rules nodes ≡ None → OverlapsAgree rules
overlaps_agree rules nodes e outer inner p m o = sides_agree rules nodes outer inner (first_side rules outer m) (second_side rules outer inner p m) ((overlaps_tested rules nodes).passed.0 e outer inner p m o)

module _ (greater at_least : Relation) (strict weak : Rule → Type 0) (laws : (sig : Sig) → Declared sig → OrderLaws sig greater at_least strict weak) where
  pub admitted_converge : AdmittedConverge strict
  admitted_converge sig declared rules over nodes (no_pool h e) = absurd (None_Some e)
  admitted_converge sig declared rules over nodes (unoriented h rule out e) = absurd (None_Some e)
  admitted_converge sig declared rules over nodes (tested h all e) = tested_converge greater at_least strict weak laws sig declared rules over all (overlaps_agree rules nodes (sym e))

  pub admitted_keep : AdmittedKeep strict
  admitted_keep s declared over scratch a = convergent_keep s declared ∣ admitted_converge s.operators declared s.rules over scratch a ∣₁

-- ---- one answer

module _ (strict : Rule → Type 0) where
  not_all : (rules : List Rule) (rule : ℕ) → FirstOutside strict rules rule → AllIn strict rules → ⊥
  not_all rules rule out all = out.outside (all rule out.known)

  one_outside : (rules : List Rule) (j k : ℕ) → FirstOutside strict rules j → FirstOutside strict rules k → j ≡ k
  one_outside rules j k a b = go (dec_lt j k) (dec_lt k j)
    where
      go : Dec (j < k) → Dec (k < j) → j ≡ k
      go (yes h) o = absurd (a.outside (b.earlier j h))
      go (no h) (yes l) = absurd (b.outside (a.earlier k l))
      go (no h) (no l) = omega arith

  pub one_admission : OneAdmission strict
  one_admission nodes rules a b (no_pool h e) (no_pool k q) = e ∙ sym q
  one_admission nodes rules a b (no_pool h e) (unoriented k rule out q) = absurd (omega arith)
  one_admission nodes rules a b (no_pool h e) (tested k all q) = absurd (omega arith)
  one_admission nodes rules a b (unoriented h rule out e) (no_pool k q) = absurd (omega arith)
  one_admission nodes rules a b (unoriented h rule out e) (unoriented k other beyond q) = e ∙ ap (λ z. Some (not_oriented z)) (one_outside rules rule other out beyond) ∙ sym q
  one_admission nodes rules a b (unoriented h rule out e) (tested k all q) = absurd (not_all rules rule out all)
  one_admission nodes rules a b (tested h all e) (no_pool k q) = absurd (omega arith)
  one_admission nodes rules a b (tested h all e) (unoriented k rule out q) = absurd (not_all rules rule out all)
  one_admission nodes rules a b (tested h all e) (tested k others q) = e ∙ sym q

  -- ---- the function

  module _ (is_strict : Rule → Bool) (decides : (r : Rule) → (is_strict r ≡ true) ↔ strict r) where
    -- the first of so many rules that is not in the set, or none of them
    abbrev Asked : List Rule → ℕ → Option Refusal → Type 0
    Asked rules n o = ((o ≡ None) × ((k : ℕ) → k < n → strict (rule_at rules k))) ⊎ ((rule : ℕ) × FirstOutside strict rules rule × (o ≡ Some (not_oriented rule)))

    asked : (rules : List Rule) (n : ℕ) → n ≤ length rules → Asked rules n (first_below n (λ k. cond (is_strict (rule_at rules k)) None (Some (not_oriented k))))
    asked rules zero h = inl (refl, λ k l. absurd (omega arith))
    asked rules (suc n) h = on (first_below n (λ k. cond (is_strict (rule_at rules k)) None (Some (not_oriented k)))) (asked rules n (omega arith))
      where
        this : (b : Bool) → is_strict (rule_at rules n) ≡ b → ((k : ℕ) → k < n → strict (rule_at rules k)) → Asked rules (suc n) (cond b None (Some (not_oriented n)))
        this true q all = inl (refl, λ k l. each k l (ℕ_discrete k n))
          where
            each : (k : ℕ) → k < suc n → Dec (k ≡ n) → strict (rule_at rules k)
            each k l (yes e) = subst (λ z. strict (rule_at rules z)) (sym e) ((decides (rule_at rules n)).0 q)
            each k l (no e) = all k (omega arith)
        this false q all = inr (n, record { known = omega arith; outside = λ w. true≢false (sym ((decides (rule_at rules n)).1 w) ∙ q); earlier = all }, refl)

        on : (o : Option Refusal) → Asked rules n o → Asked rules (suc n) (or_else o (cond (is_strict (rule_at rules n)) None (Some (not_oriented n))))
        on o (inl (p, all)) = subst (λ z. Asked rules (suc n) (or_else z (cond (is_strict (rule_at rules n)) None (Some (not_oriented n))))) (sym p) (this (is_strict (rule_at rules n)) refl all)
        on o (inr (rule, out, p)) = inr (rule, out, ap (λ z. or_else z (cond (is_strict (rule_at rules n)) None (Some (not_oriented n)))) p)

    answered : (nodes : ℕ) (rules : List Rule) → Admission strict nodes rules (admission is_strict nodes rules)
    answered nodes rules =
        cond_both (nat_le nodes scratch_limit) (or_else (order_refusal is_strict rules) (overlaps_refusal rules nodes)) (Some (wrong_length nodes)) (Admission strict nodes rules)
        (λ p. in_limit (leb-true nodes scratch_limit p) (order_refusal is_strict rules) (asked rules (length rules) (omega arith)))
        (λ p. no_pool (leb-false nodes scratch_limit p) refl)
      where
        in_limit : nodes ≤ scratch_limit → (o : Option Refusal) → Asked rules (length rules) o → Admission strict nodes rules (or_else o (overlaps_refusal rules nodes))
        in_limit h o (inl (p, all)) = tested h all (ap (λ z. or_else z (overlaps_refusal rules nodes)) p)
        in_limit h o (inr (rule, out, p)) = unoriented h rule out (ap (λ z. or_else z (overlaps_refusal rules nodes)) p)

  pub admission_decided : AdmissionDecided strict
  admission_decided is_strict decides nodes rules answer =
      let w = answered is_strict decides nodes rules in
      (λ a. one_admission nodes rules answer (admission is_strict nodes rules) a w, λ e. subst (Admission strict nodes rules) (sym e) w)
