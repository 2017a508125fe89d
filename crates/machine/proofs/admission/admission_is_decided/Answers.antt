use Rattle.machine.proofs.Admitting.{one_admission, admission_decided}
use Rattle.machine.proofs.admission.admission_is_decided.Goals as goal

pub returns-clause-one : goal.returns-clause-one
returns-clause-one g c = one_admission (g.O.ReductionOrder.strict c.args.order.now)

pub returns-clause-decided : goal.returns-clause-decided
returns-clause-decided g c = admission_decided (g.O.ReductionOrder.strict c.args.order.now)
