use Rattle.machine.proofs.Sides.{sides_tested}
use Rattle.machine.proofs.admission.sides_are_tested.Goals as goal

pub returns : goal.returns
returns c = sides_tested
