use Rattle.std.proofs.Common.{subst, ap, ◌∙◌}
use Rattle.terms.specs.Rule.{Rule}
use Rattle.sheet.specs.Sheet.{operators_of, rules_of}
use Rattle.rewriting.specs.Rules.{rule_at}
use Rattle.orders.specs.Linear.{linear_of}
use Rattle.orders.specs.Weights.{Weighs}
use Rattle.orders.proofs.Sides.{eight_variables}
use Rattle.orders.proofs.linear.Interpretation.weigh_rule.Goals as goal

pub returns : goal.returns
returns c =
    let m = linear_of c.args.self.now.weighing in
    let sheet = c.args.sheet.now in
    let (known, is) = c.in_ok-rule.ensures.value in (
      known,
      record {
        left = subst (λ t. Weighs m t c.weigh.result) (c.left.ensures ∙ ap (λ (r : Rule). r.left) is) c.weigh.ensures;
        right = subst (λ t. Weighs m t c.weigh-2.result) (c.right.ensures ∙ ap (λ (r : Rule). r.right) is) c.weigh-2.ensures;
        eight = eight_variables m (operators_of sheet) (rule_at (rules_of sheet) c.args.rule) (c.in_ok-rule.ensures.lawful c.args.rule known);
      },
    )
