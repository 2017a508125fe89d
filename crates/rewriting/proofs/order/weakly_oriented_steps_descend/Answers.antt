use Rattle.rewriting.proofs.Orders.{steps_at_least}
use Rattle.rewriting.proofs.order.weakly_oriented_steps_descend.Goals as goal

pub returns : goal.returns
returns g c = let o = c.args.order.now in steps_at_least (g.O.ReductionOrder.greater o) (g.O.ReductionOrder.at_least o) (g.O.ReductionOrder.strict o) (g.O.ReductionOrder.weak o) (λ sig h. g.O.ReductionOrder.laws o sig h)
