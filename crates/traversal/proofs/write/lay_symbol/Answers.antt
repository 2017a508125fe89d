use Rattle.std.proofs.Common.{ℕ, ap, arith}
use lib.ListN.{length-replicate}
use Rattle.signature.specs.Declaring.{sig_of}
use Rattle.fixed_vec.specs.FixedVec.{content}
use Rattle.traversal.specs.Rows.{row_of}
use Rattle.traversal.specs.Pendings.{symbol_text}
use Rattle.traversal.proofs.Rows.{row_short}
use Rattle.traversal.proofs.Overlays.{puts_both, puts_as}
use Rattle.traversal.proofs.Texts.{stepped_arguments, stepped_bare, first_free, first_taken}
use Rattle.traversal.proofs.Layings.{room_for}
use Rattle.traversal.proofs.write.lay_symbol.Goals as goal

pub unreachable-requires : goal.unreachable-requires
unreachable-requires g c =
    let v = g.V.TermView.answers c.args.view.now in
    let p = c.args.item.place in
    let full = c.in_default.ensures (row_of v p) c.arguments-row.ensures.row (row_short v p 3 0) in
    let room = room_for v c.args.item (content c.args.stack.now) c.requires.terms c.requires.stand c.requires.few in
    omega (arith, full, room)

pub returns-in-Ok : goal.returns-in-Ok
returns-in-Ok g c =
    let row = row_of (g.V.TermView.answers c.args.view.now) c.args.item.place in
    let told = puts_as (ap (symbol_text (sig_of c.args.signature.now)) c.symbol.ensures) c.put_symbol.ensures.text in
    stepped_arguments _ _ c.args.item _ _ _ _
    (puts_both c.put_lead.ensures told)
    (omega (arith, c.put_lead.ensures.lays.end, c.put_symbol.ensures.short))
    (first_taken row c.arguments-row.result c.is_none.result c.arguments-row.ensures.row c.is_none.ensures c.if-is_none.false)
    (c.in-Ok.ensures row c.arguments-row.ensures.row (row_short (g.V.TermView.answers c.args.view.now) c.args.item.place 3 0))
    c.arguments-row.ensures.few

pub returns-then-is_none : goal.returns-then-is_none
returns-then-is_none g c =
    let row = row_of (g.V.TermView.answers c.args.view.now) c.args.item.place in
    let told = puts_as (ap (symbol_text (sig_of c.args.signature.now)) c.symbol.ensures) c.put_symbol.ensures.text in
    let long = length-replicate {A = ℕ} c.args.item.closings 41 in
    stepped_bare _ _ c.args.item _ _ _
    (puts_both (puts_both c.put_lead.ensures told) c.put_closings.ensures)
    (omega (arith, c.put_lead.ensures.lays.end, c.put_symbol.ensures.short, c.put_closings.ensures.lays.end))
    (first_free row c.arguments-row.result c.is_none.result c.arguments-row.ensures.row c.is_none.ensures c.if-is_none.true)
    c.arguments-row.ensures.few
