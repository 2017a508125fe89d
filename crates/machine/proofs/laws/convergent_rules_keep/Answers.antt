use Rattle.machine.proofs.Whole.{convergent_keep}
use Rattle.machine.proofs.laws.convergent_rules_keep.Goals as goal

pub returns : goal.returns
returns c = convergent_keep
