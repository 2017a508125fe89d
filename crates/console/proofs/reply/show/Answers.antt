use Rattle.std.proofs.Common.{ℕ, ap, ◌∙◌, arith}
use Rattle.terms.specs.Term.{symbols}
use Rattle.signature.specs.Declaring.{sig_of}
use Rattle.terms.specs.Nodes.{node_answers}
use Rattle.terms.specs.Layout.{in_use}
use Rattle.signature.proofs.Operators.{declared}
use Rattle.console.specs.Replies.{ticket_line}
use Rattle.console.proofs.Replies.{few_symbols, written, front, utf8_text}
use Rattle.console.proofs.reply.show.Goals as goal

pub unreachable-requires : goal.unreachable-requires
unreachable-requires c =
    let h = c.requires in
    let l = c.len-symbols.ensures in
    written (sig_of c.args.signature.now) (node_answers (in_use c.args.ticket.now)) c.args.buffer.now c.write_text.new.buffer h.ticket h.stands (few_symbols _ (omega arith)) h.fits c.in_default.field-0 c.in_default.ensures

pub unreachable-requires-in_default-from_utf8 : goal.unreachable-requires-in_default-from_utf8
unreachable-requires-in_default-from_utf8 c =
    let h = c.requires in
    let s = c.args.signature.now in
    c.in_default-from_utf8.ensures.cases.0
    (utf8_text (sig_of s) (declared s) h.ticket h.is_ticket _ (front (sig_of s) (node_answers (in_use c.args.ticket.now)) c.args.buffer.now c.write_text.new.buffer h.ticket h.stands c.in-Ok.n c.in-Ok.ensures))

pub returns : goal.returns
returns c = λ t s k.
    let text = c.in-Ok-from_utf8.ensures.cases.0 ∙ front (sig_of c.args.signature.now) (node_answers (in_use c.args.ticket.now)) c.args.buffer.now c.write_text.new.buffer t s c.in-Ok.n c.in-Ok.ensures in
    let many = c.len-symbols.ensures.value ∙ k in
    ap (λ (n : ℕ). ticket_line n c.in-Ok-from_utf8.text.now) many ∙ ap (ticket_line (symbols t)) text
