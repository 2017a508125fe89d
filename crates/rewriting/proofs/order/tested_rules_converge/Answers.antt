use Rattle.rewriting.proofs.Orders.{tested_converge}
use Rattle.rewriting.proofs.order.tested_rules_converge.Goals as goal

pub returns : goal.returns
returns g c = let o = c.args.order.now in tested_converge (g.O.ReductionOrder.greater o) (g.O.ReductionOrder.at_least o) (g.O.ReductionOrder.strict o) (g.O.ReductionOrder.weak o) (λ sig h. g.O.ReductionOrder.laws o sig h)
