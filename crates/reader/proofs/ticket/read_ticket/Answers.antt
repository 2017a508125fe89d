use Rattle.std.proofs.Common.{arith}
use Rattle.signature.specs.Declaring.{sig_of}
use Rattle.reading.proofs.Reading.{ticket_law}
use Rattle.reading.specs.Reading.{wants, top}
use Rattle.reader.proofs.Tickets.{long_text, ticket_read}
use Rattle.reader.proofs.ticket.read_ticket.Goals as goal

pub returns-then-text-gt-TICKET_BYTES : goal.returns-then-text-gt-TICKET_BYTES
returns-then-text-gt-TICKET_BYTES c =
    let s = c.args.signature.now in
    record { reads = long_text (sig_of s) c.args.text.now (omega arith); law = ticket_law (sig_of s) s.declared c.args.text.now }

pub returns-clause-reads : goal.returns-clause-reads
returns-clause-reads c =
    let s = c.args.signature.now in
    ticket_read (sig_of s) s.declared c.args.text.now c.read.result (λ h. c.read.ensures.within h (wants top) (c.new.ensures, omega arith)) c.read.ensures.beyond

pub returns-clause-law : goal.returns-clause-law
returns-clause-law c = let s = c.args.signature.now in ticket_law (sig_of s) s.declared c.args.text.now
