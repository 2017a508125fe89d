use Rattle.signature.specs.Declaring.{sig_of}
use Rattle.console.proofs.Replies.{showable}
use Rattle.console.proofs.reply.reply.Goals as goal

pub show-requires : goal.show-requires
show-requires c = let h = c.in_ok-ticket.ensures in showable (sig_of c.args.signature.now) c.in_ok-text.text.now c.in_ok-ticket.ticket c.args.buffer.now h.reads h.law c.told-buffer
