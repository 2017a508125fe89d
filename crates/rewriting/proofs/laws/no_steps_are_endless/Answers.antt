use Rattle.rewriting.proofs.Converging.{no_endless_steps}
use Rattle.rewriting.proofs.laws.no_steps_are_endless.Goals as goal

pub returns : goal.returns
returns c = no_endless_steps
