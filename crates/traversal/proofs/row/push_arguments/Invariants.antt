use Rattle.std.proofs.Common.{◌≡◌, ◌++◌, drop}
use Rattle.fixed_vec.specs.FixedVec.{content}
use Rattle.traversal.specs.Rows.{row_of}
use Rattle.traversal.proofs.row.push_arguments.Given as goal
use Rattle.traversal.proofs.Slots.{filled}

abbrev pub invariant-loop-slot : goal.invariant-loop-slot
invariant-loop-slot g l = filled (drop l.slot-index l.slot-items) (content l.stack) ≡ row_of (g.V.TermView.answers l.view) l.place ++ content l.fn.stack
