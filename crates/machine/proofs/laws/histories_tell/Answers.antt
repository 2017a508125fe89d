use Rattle.machine.proofs.History.{history_tells}
use Rattle.machine.proofs.laws.histories_tell.Goals as goal

pub returns : goal.returns
returns c = history_tells
