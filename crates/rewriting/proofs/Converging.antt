-- Where next steps end, and where conversions lead.
use Rattle.std.proofs.Common.{◌≡◌, ◌≢◌, refl, sym, ◌∙◌, ap, subst, List, ℕ, zero, suc, ◌+◌, ◌<◌, arith}
use Rattle.std.proofs.Math.Option.{Option, none, some}
use Rattle.std.proofs.Math.Logic.{∥∥₁_elim}
use Rattle.std.proofs.Math.Decide.{dec_lt}
use Rattle.terms.specs.Term.{Term}
use Rattle.terms.specs.Signature.{Sig}
use Rattle.terms.specs.Ticket.{Ticket}
use Rattle.terms.specs.Rule.{Rule}
use Rattle.rewriting.specs.Rules.{RulesOf}
use Rattle.rewriting.specs.Step.{Step}
use Rattle.rewriting.specs.Reduction.{Reduces, done, more, Joinable, Ends, ends, alone}
use Rattle.rewriting.specs.Next.{next, run, EndsAfter}
use Rattle.rewriting.specs.Convergent.{Convergent, OverlapsJoin, OverlapsAgree, Converts}
use Rattle.rewriting.specs.Laws.{RunsAdd, RunsReduce, CriticalPairs, NoEndlessSteps, NextStepsEnd, ConversionsAgree, EqualRunsConvert, FormsDecide}
use Rattle.rewriting.proofs.Filling.{none_some}
use Rattle.rewriting.proofs.Reducing.{reduces_map, conversion_first, conversion_last, church_rosser, same_normal, no_endless, conversion_along, conversion_from}
use Rattle.rewriting.proofs.Stepping.{step_rewrites, rewrites_step}
use Rattle.rewriting.proofs.Tickets.{step_ticket}
use Rattle.rewriting.proofs.Props.{rules_of_prop, counted_prop, term_set}
use Rattle.rewriting.proofs.Peaks.{peak}
use Rattle.rewriting.proofs.Overlapping.{overlaps_are_steps}
use Rattle.rewriting.specs.Unifier.{first_side, second_side}
use Rattle.rewriting.proofs.Nexts.{next_some, next_step, none_normal}

-- ---- runs

-- after the first of many next steps
pub run_on : (rules : List Rule) (n : ℕ) (t u : Term) → next rules t ≡ some u → run rules (suc n) t ≡ run rules n u
run_on rules n t u e = ap (λ o. elim o as (λ _. Term) [ none ↦ t | some v ↦ run rules n v ]) e

-- where there is no next step a run stays
pub run_stays : (rules : List Rule) (n : ℕ) (t : Term) → next rules t ≡ none → run rules n t ≡ t
run_stays rules zero t e = refl
run_stays rules (suc n) t e = ap (λ o. elim o as (λ _. Term) [ none ↦ t | some v ↦ run rules n v ]) e

-- a run, and then another
pub run_then : (rules : List Rule) (n k : ℕ) (t : Term) → run rules k (run rules n t) ≡ run rules (n + k) t
run_then rules zero k t = let e : k ≡ 0 + k = omega arith in ap (λ j. run rules j t) e
run_then rules (suc n) k t = go (λ u. run_then rules n k u) (next rules t) refl
  where
    more_on : suc (n + k) ≡ suc n + k
    more_on = omega arith

    go : ((u : Term) → run rules k (run rules n u) ≡ run rules (n + k) u) → (o : Option Term) → next rules t ≡ o → run rules k (run rules (suc n) t) ≡ run rules (suc n + k) t
    go rec none e = ap (run rules k) (run_stays rules (suc n) t e) ∙ run_stays rules k t e ∙ sym (run_stays rules (suc n + k) t e)
    go rec (some u) e = ap (run rules k) (run_on rules n t u e) ∙ rec u ∙ sym (run_on rules (n + k) t u e) ∙ ap (λ j. run rules j t) more_on

module _ {sig : Sig} {rules : List Rule} (over : RulesOf sig rules) where
  pub run_reduces : (n : ℕ) (t : Term) → Reduces (Step rules) t (run rules n t)
  run_reduces zero t = done
  run_reduces (suc n) t = go (λ u. run_reduces n u) (next rules t) refl
    where
      go : ((u : Term) → Reduces (Step rules) u (run rules n u)) → (o : Option Term) → next rules t ≡ o → Reduces (Step rules) t (elim o as (λ _. Term) [ none ↦ t | some u ↦ run rules n u ])
      go rec none e = done
      go rec (some u) e = more (next_step (next_some over t u e)) (rec u)

  -- where steps end, next steps end after a number
  pub counted : {t : Term} → Ends (Step rules) t → (n : ℕ) × EndsAfter rules t n
  counted (ends {a = t} h) = go (λ u a. counted (h u a)) (next rules t) refl
    where
      go : ((u : Term) → Step rules t u → (n : ℕ) × EndsAfter rules u n) → (o : Option Term) → next rules t ≡ o → (n : ℕ) × EndsAfter rules t n
      go rec none e = (0, record { going = λ k j. absurd (omega arith); ended = e })
      go rec (some u) e =
          let (n, a) = rec u (next_step (next_some over t u e)) in
          (suc n, record { going = going n a; ended = ap (next rules) (run_on rules n t u e) ∙ a.ended })
        where
          going : (n : ℕ) → EndsAfter rules u n → (k : ℕ) → k < suc n → next rules (run rules k t) ≢ none
          going n a zero j w = none_some (sym w ∙ e)
          going n a (suc k) j w = a.going k (omega arith) (ap (next rules) (sym (run_on rules k t u e)) ∙ w)

-- and after one number only
pub counted_once : (rules : List Rule) (t : Term) (n k : ℕ) → EndsAfter rules t n → EndsAfter rules t k → k ≡ n
counted_once rules t n k a b = go (dec_lt n k) (dec_lt k n)
  where
    go : Dec (n < k) → Dec (k < n) → k ≡ n
    go (yes h) o = absurd (b.going n h a.ended)
    go (no h) (yes o) = absurd (a.going k o b.ended)
    go (no h) (no o) = omega arith

-- ---- what steps lead to

pub peaks_join : {sig : Sig} {rules : List Rule} → RulesOf sig rules → OverlapsJoin rules → (t u v : Term) → Step rules t u → Step rules t v → Joinable (Step rules) u v
peaks_join over joins t u v a b =
    let (c, p, q) = peak over joins (step_rewrites a) (step_rewrites b) in
    (c, reduces_map (λ x. x) (λ x y r. rewrites_step r) p, reduces_map (λ x. x) (λ x y r. rewrites_step r) q)

pub runs_add : RunsAdd
runs_add rules n k t = run_then rules n k t

pub runs_reduce : RunsReduce
runs_reduce sig rules over n t = run_reduces over n t

pub critical_pairs : CriticalPairs
critical_pairs sig rules over = (peaks_join over, λ joins outer inner p m o. let (a, b) = overlaps_are_steps sig rules over outer inner p m o in joins _ _ _ a b)

pub no_endless_steps : NoEndlessSteps
no_endless_steps sig rules ending ts tickets steps = no_endless (ending (ts 0) (tickets 0)) ts refl steps

pub next_steps_end : NextStepsEnd
next_steps_end sig rules c t h =
    ∥∥₁_elim c (counted_prop rules t) (λ c. let (n, a) = counted c.over (c.steps_end t h) in (n, a, λ k b. counted_once rules t n k a b))

pub conversions_agree : ConversionsAgree
conversions_agree sig rules c t u w =
    let peaks = peaks_join c.over c.overlaps_join in
    let t-ends = c.steps_end t (conversion_first w) in
    let u-ends = c.steps_end u (conversion_last w) in
    let joined = church_rosser peaks c.steps_end w in
    let (n, a) = counted c.over t-ends in
    let (m, b) = counted c.over u-ends in
    let t-form = none_normal c.over (run rules n t) a.ended in
    let u-form = none_normal c.over (run rules m u) b.ended in
    let same : run rules n t ≡ run rules m u = same_normal peaks t-ends u-ends joined (run_reduces c.over n t) t-form (run_reduces c.over m u) u-form in
    record {
      form = run rules n t;
      normal = t-form;
      steps_of_first = n;
      first = refl;
      steps_of_second = m;
      second = sym same;
      only_of_first = λ v p k. same_normal peaks t-ends t-ends (t, done, done) p k (run_reduces c.over n t) t-form;
      only_of_second = λ v p k. same_normal peaks u-ends u-ends (u, done, done) p k (run_reduces c.over m u) u-form ∙ sym same;
    }

pub equal_runs_convert : EqualRunsConvert
equal_runs_convert sig rules over t u h k n m e =
    let keeps = λ (a b : Term) (r : Step rules a b) (j : Ticket sig a). step_ticket over r j in
    let back = conversion_from keeps (run_reduces over m u) (alone k) in
    conversion_along keeps h (run_reduces over n t) (subst (λ z. Converts sig rules z u) (sym e) back)

pub forms_decide : FormsDecide
forms_decide sig rules c t u h k n m a b = (λ w. ∥∥₁_elim c (term_set (run rules n t) (run rules m u)) (λ c. same c w), equal_runs_convert sig rules (∥∥₁_elim c (rules_of_prop sig rules) (λ c. c.over)) t u h k n m)
  where
    same : Convergent sig rules → Converts sig rules t u → run rules n t ≡ run rules m u
    same c w =
        same_normal (peaks_join c.over c.overlaps_join) (c.steps_end t h) (c.steps_end u k) (church_rosser (peaks_join c.over c.overlaps_join) c.steps_end w)
        (run_reduces c.over n t) (none_normal c.over (run rules n t) a.ended) (run_reduces c.over m u) (none_normal c.over (run rules m u) b.ended)

-- where runs of two terms agree, the two can be joined
pub agreeing_joins : {sig : Sig} {rules : List Rule} → RulesOf sig rules → OverlapsAgree rules → OverlapsJoin rules
agreeing_joins {sig} {rules} over agree outer inner p m o =
    let (n, k, e) = agree outer inner p m o in
    let b : Term = second_side rules outer inner p m in
    (run rules n (first_side rules outer m), run_reduces over n (first_side rules outer m), subst (Reduces (Step rules) b) (sym e) (run_reduces over k b))
