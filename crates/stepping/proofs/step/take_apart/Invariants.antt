use Rattle.std.proofs.Common.{◌≡◌}
use Rattle.std.specs.Iterator.Adapters.{zip_first, zip_second}
use Rattle.std.specs.Slice.Iter.{iter_rest}
use Rattle.fixed_vec.specs.FixedVec.{items}
use Rattle.node_store.specs.Memory.{memory}
use Rattle.stepping.specs.Parting.{parted}
use Rattle.stepping.proofs.step.take_apart.Given as goal

abbrev pub invariant-loop-check : goal.invariant-loop-check
invariant-loop-check l = parted (memory l.store) (iter_rest (zip_first l.check-iterator)) (iter_rest (zip_second l.check-iterator)) ≡ parted (memory l.initial.store) (items l.plan.checks) (items l.places)
