use Rattle.sheet_reader.proofs.Progress.{ended}
use Rattle.sheet_reader.proofs.taking.next.Goals as goal

pub returns-in-None-clause-reading : goal.returns-in-None-clause-reading
returns-in-None-clause-reading c b s h r = ended b s c.args.lexer.now c.next_token.new.self c.into.result h r (c.in-None.ensures) c.into.ensures
