use Rattle.std.proofs.Common.{◌≡◌}
use Rattle.std.specs.Iterator.Adapters.{zip_first, zip_second}
use Rattle.std.specs.Slice.Iter.{iter_rest}
use Rattle.fixed_vec.specs.FixedVec.{items}
use Rattle.node_store.specs.Memory.{memory}
use Rattle.stepping.specs.Parting.{without}
use Rattle.stepping.proofs.step.give_dropped.Given as goal

abbrev pub invariant-loop-number : goal.invariant-loop-number
invariant-loop-number l = without (memory l.store) (iter_rest (zip_first l.number-iterator)) (iter_rest (zip_second l.number-iterator)) (items l.places) ≡ without (memory l.initial.store) (items l.plan.dropped) (items l.sizes) (items l.places)
