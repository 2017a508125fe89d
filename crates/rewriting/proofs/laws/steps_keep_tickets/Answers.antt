use Rattle.rewriting.proofs.Tickets.{steps_keep_tickets}
use Rattle.rewriting.proofs.laws.steps_keep_tickets.Goals as goal

pub returns : goal.returns
returns c = steps_keep_tickets
