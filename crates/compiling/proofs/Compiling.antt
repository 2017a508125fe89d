-- The plans of all rules.
use Rattle.std.proofs.Common.{◌≡◌, ℕ, ◌+◌, ◌<◌, List, [], ◌∷◌, ◌++◌, length, get_or, sym, subst, ap, ◌∙◌, inl, inr, arith}
use Rattle.std.proofs.lemmas.Bool.{cases_lt}
use Rattle.std.proofs.lemmas.List.{length_push, get_or_push, get_or_append_left}
use Rattle.terms.specs.Rule.{Rule}
use Rattle.rewriting.specs.Rules.{rule_at}
use Rattle.compiled.specs.declared.Plan.{Plan}
use Rattle.compiled.specs.Plans.{Planned}
use Rattle.compiled.specs.Compiled.{PlanOf}

-- a plan for each of the first n rules
pub record PlansOf (rules : List Rule) (plans : List Plan) (n : ℕ) : Type 0 where
  pub many : length plans ≡ n
  pub planned : (i : ℕ) (d : Plan) → i < n → Planned (rule_at rules i) (get_or plans i d)

module _ (rules : List Rule) where
  pub one_plan : (plans more : List Plan) (n : ℕ) (p : Plan) → PlansOf rules plans n → more ≡ plans ++ p ∷ [] → Planned (rule_at rules n) p → PlansOf rules more (n + 1)
  one_plan plans more n p so_far pushed planned =
      let before = λ (i : ℕ) (d : Plan) (l : i < n). ap (λ ps. get_or ps i d) pushed ∙ get_or_append_left plans (p ∷ []) d i (omega (arith, so_far.many)) in
      let last = λ (d : Plan). ap (λ ps. get_or ps n d) pushed ∙ get_or_push plans p d n so_far.many in
      record {
        many = ap length pushed ∙ length_push plans p ∙ ap (λ k. k + 1) so_far.many;
        planned = λ i d l. elim (cases_lt i n) [
          | inl k ↦ subst (Planned (rule_at rules i)) (sym (before i d k)) (so_far.planned i d k)
          | inr k ↦ (let same : i ≡ n = omega arith in rw same (subst (Planned (rule_at rules n)) (sym (last d)) planned))
        ];
      }

  pub plan_at : (plans : List Plan) → PlansOf rules plans (length rules) → (i : ℕ) (d : Plan) → i < length rules → PlanOf rules i (get_or plans i d)
  plan_at plans all i d l = record { known = l; planned = all.planned i d l }
