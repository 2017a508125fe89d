use Rattle.machine.proofs.Overlapping.{overlaps_tested}
use Rattle.machine.proofs.admission.overlaps_are_tested.Goals as goal

pub returns : goal.returns
returns c = overlaps_tested
