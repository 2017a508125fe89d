use Rattle.std.proofs.Common.{◌≡◌, drop}
use Rattle.fixed_vec.specs.FixedVec.{content}
use Rattle.traversal.proofs.Slots.{heaped}
use Rattle.traversal.proofs.write.push_arguments.Given as goal

abbrev pub invariant-loop-slot : goal.invariant-loop-slot
invariant-loop-slot l = heaped l.after (drop l.slot-index l.slot-items) (content l.stack) ≡ heaped l.closings l.slot-items (content l.fn.stack)
