use Rattle.rewriting.proofs.Overlapping.{overlaps_are_steps}
use Rattle.rewriting.proofs.laws.overlaps_are_steps.Goals as goal

pub returns : goal.returns
returns c = overlaps_are_steps
