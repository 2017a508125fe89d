use Rattle.rewriting.proofs.Converging.{next_steps_end}
use Rattle.rewriting.proofs.laws.next_steps_end.Goals as goal

pub returns : goal.returns
returns c = next_steps_end
