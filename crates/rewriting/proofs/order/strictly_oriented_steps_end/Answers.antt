use Rattle.rewriting.proofs.Orders.{steps_greater, strictly_oriented_end}
use Rattle.rewriting.proofs.order.strictly_oriented_steps_end.Goals as goal

pub returns-clause-descend : goal.returns-clause-descend
returns-clause-descend g c = let o = c.args.order.now in steps_greater (g.O.ReductionOrder.greater o) (g.O.ReductionOrder.at_least o) (g.O.ReductionOrder.strict o) (g.O.ReductionOrder.weak o) (λ sig h. g.O.ReductionOrder.laws o sig h)

pub returns-clause-end : goal.returns-clause-end
returns-clause-end g c = let o = c.args.order.now in strictly_oriented_end (g.O.ReductionOrder.greater o) (g.O.ReductionOrder.at_least o) (g.O.ReductionOrder.strict o) (g.O.ReductionOrder.weak o) (λ sig h. g.O.ReductionOrder.laws o sig h)
