use Rattle.std.proofs.Common.{suc, ◌+◌, ◌≤◌, map, sum, ap, ◌∙◌, arith}
use Rattle.fixed_vec.specs.FixedVec.{items}
use Rattle.traversal.specs.Walks.{most_symbols}
use Rattle.node_store.specs.Memory.{counted}
use Rattle.node_store.specs.Placed.{size}
use Rattle.matching.proofs.Rooms.{size_of}
use Rattle.matching.proofs.Needs.{all_dropped, all_copied, moved, given_up, made, room_same}
use Rattle.matching.proofs.room.has_room.Goals as goal

pub returns : goal.returns
returns c sig r ks kept v rule plan held few peeled =
    let p = c.args.plan.now in
    let ns = c.args.store.now.nodes.now in
    let places = items c.args.places.now in
    let small : size ks ≤ most_symbols = omega arith in
    let sizes = size_of kept places in
    let dropped = all_dropped sig r rule p plan ns ks held small places kept v peeled in
    let copied = all_copied sig r rule p plan ns ks held small places kept v peeled in (
      c.count_dropped-before.ensures.sizes (map sizes (items p.dropped)) dropped,
      room_same (p.after + sum (map sizes (items p.copied))) (p.before + sum (map sizes (items p.dropped))) (moved sig r rule p plan ns ks held small places kept v peeled) (suc (size ks)) _ c.args.store.now.free _ _ _
          (given_up sig r rule p plan ns ks held small places kept v peeled)
          (made sig r rule p plan ns ks held small places kept v peeled)
          few
          (c.count_copied-after.ensures (map sizes (items p.copied)) copied)
          (c.count_dropped-before.ensures.sum (map sizes (items p.dropped)) dropped)
          (c.saturating_add.ensures ∙ ap (λ n. counted (c.count_dropped-before.result + n)) c.free.ensures),
    )
