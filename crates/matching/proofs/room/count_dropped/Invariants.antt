use Rattle.std.proofs.Common.{◌≡◌, ◌+◌, List, ℕ, take, sum}
use Rattle.fixed_vec.specs.FixedVec.{items}
use Rattle.node_store.specs.Memory.{memory, counted}
use Rattle.matching.specs.Sizing.{AllSized}
use Rattle.matching.proofs.room.count_dropped.Given as goal

abbrev pub invariant-loop-number : goal.invariant-loop-number
invariant-loop-number l =
    (sizes : List ℕ) → AllSized (memory l.store).nodes (items l.places) (items l.plan.dropped) sizes
    → (items l.sizes ≡ take l.number-index sizes) × (l.before ≡ counted (l.plan.before + sum (take l.number-index sizes)))
