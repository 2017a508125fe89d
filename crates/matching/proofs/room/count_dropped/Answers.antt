use Rattle.std.proofs.Common.{◌∙◌, arith}
use Rattle.fixed_vec.specs.FixedVec.{items}
use Rattle.matching.proofs.Sizings.{next_size, next_count, last_count, next_listed, last_listed}
use Rattle.matching.proofs.room.count_dropped.Goals as goal

pub loop-number-preserved : goal.loop-number-preserved
loop-number-preserved c l a =
    let places = items c.args.places.now in
    let same = c.deref-number-items.ensures.0 in
    let i = c.loop-number.number-index in
    let w = c.loop-number.invariant l a in
    let n = c.size-n.ensures _ (next_size c.args.store.now.nodes.now places _ _ l same a i _ (omega arith) c.place_of.ensures) in (
      next_listed c.args.store.now.nodes.now places _ _ l same a i _ _ _ c.push.result c.deref-number-items.ensures.1 (omega arith) n w.0 c.push.ensures.last c.push.ensures.full,
      c.saturating_add-before.ensures ∙ next_count c.args.store.now.nodes.now places _ _ l same a i _ _ _ (omega arith) n w.1,
    )

pub returns-clause-sizes : goal.returns-clause-sizes
returns-clause-sizes c l a = last_listed c.args.store.now.nodes.now (items c.args.places.now) _ _ l c.deref-number-items.ensures.0 a c.loop-number.number-index _ (omega arith) (c.loop-number.invariant l a).0

pub returns-clause-sum : goal.returns-clause-sum
returns-clause-sum c l a = last_count c.args.store.now.nodes.now (items c.args.places.now) _ _ l c.deref-number-items.ensures.0 a c.loop-number.number-index _ _ (omega arith) (c.loop-number.invariant l a).1
