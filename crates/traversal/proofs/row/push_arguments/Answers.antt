use Rattle.std.proofs.Common.{arith}
use Rattle.fixed_vec.specs.FixedVec.{content}
use Rattle.traversal.specs.Rows.{row_of}
use Rattle.traversal.proofs.Visits.{refused}
use Rattle.traversal.proofs.row.push_arguments.Goals as goal

pub returns-in_err-push-clause-row : goal.returns-in_err-push-clause-row
returns-in_err-push-clause-row g c =
    refused c.from_residual.result (row_of (g.V.TermView.answers c.args.view.now) c.args.place) (content c.loop-slot.stack) (content c.args.stack.now) _ _ c.loop-slot.slot-index c.in-Some.argument c.from_residual.ensures.0 (omega arith) c.in-Some.is c.loop-slot.invariant c.in_err-push.ensures.top.1
