use Rattle.signature.specs.Declaring.{sig_of}
use Rattle.lexer.specs.Lexing.{meaning}
use Rattle.reader.proofs.Sparse.{steps_on}
use Rattle.reader.proofs.ticket.TicketReaderMachine.step.Goals as goal

pub returns-clause-next : goal.returns-clause-next
returns-clause-next c = λ w s h. steps_on (sig_of c.args.self.now.signature.now) c.args.lexeme.at (meaning c.args.lexeme.token) s c.step.result c.step.new.self w.some_bytes h.1 (c.step.ensures s h.0 (h.1, w.in_reach))
