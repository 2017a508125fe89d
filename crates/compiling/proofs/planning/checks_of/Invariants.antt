use Rattle.std.proofs.Common.{◌≡◌, map, take}
use Rattle.fixed_vec.specs.FixedVec.{items}
use Rattle.compiling.proofs.Checks.{check_for}
use Rattle.compiling.proofs.planning.checks_of.Given as goal

abbrev pub invariant-loop-part : goal.invariant-loop-part
invariant-loop-part l = items l.checks ≡ map check_for (take l.part-index (items l.left.others))
