use Rattle.std.proofs.Common.{◌∙◌, arith}
use Rattle.fixed_vec.specs.FixedVec.{items}
use Rattle.matching.proofs.Sizings.{next_size, next_count, last_count}
use Rattle.matching.proofs.room.count_copied.Goals as goal

pub loop-number-preserved : goal.loop-number-preserved
loop-number-preserved c l a =
    let places = items c.args.places.now in
    let same = c.deref-number-items.ensures.0 in
    let i = c.loop-number.number-index in
    let n = c.size-n.ensures _ (next_size c.args.store.now.nodes.now places _ _ l same a i _ (omega arith) c.place_of.ensures) in
    c.saturating_add-after.ensures ∙ next_count c.args.store.now.nodes.now places _ _ l same a i _ _ _ (omega arith) n (c.loop-number.invariant l a)

pub returns : goal.returns
returns c l a = last_count c.args.store.now.nodes.now (items c.args.places.now) _ _ l c.deref-number-items.ensures.0 a c.loop-number.number-index _ _ (omega arith) (c.loop-number.invariant l a)
