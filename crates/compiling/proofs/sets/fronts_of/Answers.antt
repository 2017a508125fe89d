use Rattle.std.proofs.Common.{◌≡◌, ℕ, ◌<◌, length, get_or, refl, subst, sym, arith, Some, None}
use Rattle.std.proofs.lemmas.List.{get_or-replicate}
use Rattle.rule_set.specs.declared.RuleSet.{RuleSet}
use Rattle.sheet.specs.Sheet.{rules_of}
use Rattle.compiling.proofs.Noting.{NotedBefore, none_noted, one_noted, all_noted}
use Rattle.compiling.proofs.sets.fronts_of.Goals as goal

pub loop-rule-init : goal.loop-rule-init
loop-rule-init c = record {
  many = refl;
  operators = λ f d l. subst (NotedBefore (rules_of c.args.sheet.now) c.args.n 0 (Some f)) (sym (get_or-replicate 32 f c.none-operators.result d l)) (none_noted (rules_of c.args.sheet.now) c.args.n (Some f) c.none-operators.result c.none-operators.ensures);
  others = none_noted (rules_of c.args.sheet.now) c.args.n None c.none-others.result c.none-others.ensures;
}

pub loop-rule-preserved : goal.loop-rule-preserved
loop-rule-preserved c =
    let rules = rules_of c.args.sheet.now in
    let so_far = c.loop-rule.invariant in
    let k = c.loop-rule.rule in
    record {
      many = c.type_inv.operators;
      operators = λ f d l. one_noted rules c.args.n (Some f) k c.wanted-wanted.result _ _ (so_far.operators f d l) (c.wanted-wanted.ensures (Some f)) (c.note.ensures f d l);
      others = one_noted rules c.args.n None k c.wanted-wanted.result _ _ so_far.others (c.wanted-wanted.ensures None) c.noted-others.ensures;
    }

pub returns : goal.returns
returns c =
    let rules = rules_of c.args.sheet.now in
    let all : c.loop-rule.rule ≡ length rules = omega (arith, c.len-rule-end.ensures.value) in
    let operators = λ (f : ℕ) (d : RuleSet) (l : f < 32). subst (λ k. NotedBefore rules c.args.n k (Some f) (get_or c.loop-rule.operators f d)) all (c.loop-rule.invariant.operators f d l) in
    let others = subst (λ k. NotedBefore rules c.args.n k None c.loop-rule.others) all c.loop-rule.invariant.others in
    all_noted rules c.args.n _ operators others
