use Rattle.rewriting.proofs.Converging.{critical_pairs}
use Rattle.rewriting.proofs.laws.overlaps_are_critical.Goals as goal

pub returns : goal.returns
returns c = critical_pairs
