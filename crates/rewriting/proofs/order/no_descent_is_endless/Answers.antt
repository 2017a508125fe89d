use Rattle.rewriting.proofs.Orders.{no_endless_descent}
use Rattle.rewriting.proofs.order.no_descent_is_endless.Goals as goal

pub returns : goal.returns
returns g c = let o = c.args.order.now in no_endless_descent (g.O.ReductionOrder.greater o) (g.O.ReductionOrder.at_least o) (g.O.ReductionOrder.strict o) (g.O.ReductionOrder.weak o) (λ sig h. g.O.ReductionOrder.laws o sig h)
