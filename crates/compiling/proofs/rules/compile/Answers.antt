use Rattle.std.proofs.Common.{◌≡◌, length, sym, subst, arith}
use Rattle.std.proofs.lemmas.Result.{IfOk-at_ok}
use Rattle.fixed_vec.specs.FixedVec.{items}
use Rattle.rewriting.specs.Rules.{rule_at}
use Rattle.sheet.specs.Sheet.{operators_of, rules_of}
use Rattle.compiled.specs.Plans.{Planned}
use Rattle.compiling.specs.Compilable.{Compilable}
use Rattle.compiling.proofs.Compiling.{PlansOf, one_plan, plan_at}
use Rattle.compiling.proofs.Lawful.{rule_over, compilable, low_first}
use Rattle.compiling.proofs.rules.compile.Goals as goal

pub plan_of-requires : goal.plan_of-requires
plan_of-requires c =
    let s = c.args.sheet.now in
    let (known, is) = c.in-Some.ensures.value in
    subst Compilable (sym is) (compilable (operators_of s) (rule_at (rules_of s) c.loop-i.i) (rule_over (operators_of s) (rules_of s) c.in-Some.ensures.lawful c.loop-i.i known))

pub loop-i-preserved : goal.loop-i-preserved
loop-i-preserved c =
    let p = c.plan_of.result in
    one_plan (rules_of c.args.sheet.now) _ _ c.loop-i.i p c.loop-i.invariant (IfOk-at_ok (λ _. _) c.unwrap.ensures c.push.ensures.last) (subst (λ r. Planned r p) c.in-Some.ensures.value.1 c.plan_of.ensures)

pub returns : goal.returns
returns c =
    let s = c.args.sheet.now in
    let rules = rules_of s in
    let all : c.loop-i.i ≡ length rules = omega (arith, c.len-i-end.ensures.value) in
    let plans = subst (PlansOf rules (items c.loop-i.plans)) all c.loop-i.invariant in
    record {
      many = plans.many;
      few = omega (arith, c.len-i-end.ensures.value, c.len-i-end.ensures.few);
      plans = plan_at rules (items c.loop-i.plans) plans;
      low = low_first s;
      begins = c.begins.ensures.begins;
      first = c.fronts_of.ensures;
      second = c.fronts_of-2.ensures;
    }
