use Rattle.machine.proofs.Reducing.{reductions_fixed}
use Rattle.machine.proofs.laws.reductions_are_fixed.Goals as goal

pub returns : goal.returns
returns c = reductions_fixed
