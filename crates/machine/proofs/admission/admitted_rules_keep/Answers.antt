use Rattle.machine.proofs.Admitting.{admitted_converge, admitted_keep}
use Rattle.machine.proofs.admission.admitted_rules_keep.Goals as goal

pub returns-clause-converge : goal.returns-clause-converge
returns-clause-converge g c = let o = c.args.order.now in admitted_converge (g.O.ReductionOrder.greater o) (g.O.ReductionOrder.at_least o) (g.O.ReductionOrder.strict o) (g.O.ReductionOrder.weak o) (λ sig h. g.O.ReductionOrder.laws o sig h)

pub returns-clause-keep : goal.returns-clause-keep
returns-clause-keep g c = let o = c.args.order.now in admitted_keep (g.O.ReductionOrder.greater o) (g.O.ReductionOrder.at_least o) (g.O.ReductionOrder.strict o) (g.O.ReductionOrder.weak o) (λ sig h. g.O.ReductionOrder.laws o sig h)
