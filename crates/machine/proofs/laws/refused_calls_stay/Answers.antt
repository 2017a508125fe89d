use Rattle.machine.proofs.Refusing.{refused_stay}
use Rattle.machine.proofs.laws.refused_calls_stay.Goals as goal

pub returns : goal.returns
returns c = refused_stay
