use Rattle.std.proofs.Common.{◌≡◌, ◌<◌, length, get_or, refl, subst, sym, ◌∙◌, arith}
use Rattle.std.proofs.lemmas.List.{get_or-replicate, length-set}
use Rattle.rewriting.specs.Rules.{left_of}
use Rattle.sheet.specs.Sheet.{rules_of}
use Rattle.compiled.specs.Compiled.{BeginsWith}
use Rattle.compiling.proofs.Beginnings.{BeginsBefore, none_begins, all_begin, all_began}
use Rattle.compiling.proofs.sets.begins.Goals as goal

pub loop-rule-init : goal.loop-rule-init
loop-rule-init c = record {
  many = refl;
  so_far = λ f d l. subst (BeginsBefore (rules_of c.args.sheet.now) f 0) (sym (get_or-replicate 32 f c.none-begins.result d l)) (none_begins (rules_of c.args.sheet.now) f c.none-begins.result c.none-begins.ensures);
}

pub loop-rule-preserved : goal.loop-rule-preserved
loop-rule-preserved c =
    let rules = rules_of c.args.sheet.now in
    let so_far = c.loop-rule.invariant in
    let f = c.from-operator.result in
    let begins = subst (λ n. BeginsWith n (left_of rules c.loop-rule.rule)) (sym c.from-operator.ensures) c.first_operator.ensures.begins in
    let low : f < 32 = omega (arith, c.first_operator.ensures.low) in
    record {
      many = length-set _ _ _ ∙ so_far.many;
      so_far = all_begin rules c.loop-rule.rule f begins c.loop-rule.begins _ c.with.result (omega (arith, so_far.many)) so_far.so_far (c.with.ensures.added (omega (arith, c.len-rule-end.ensures.few)));
    }

pub returns : goal.returns
returns c =
    let rules = rules_of c.args.sheet.now in
    let all : c.loop-rule.rule ≡ length rules = omega (arith, c.len-rule-end.ensures.value) in
    record {
      many = c.loop-rule.invariant.many;
      begins = λ f d l. all_began rules f _ (subst (λ k. BeginsBefore rules f k (get_or c.loop-rule.begins f d)) all (c.loop-rule.invariant.so_far f d l));
    }
