use Rattle.std.proofs.Common.{arith}
use Rattle.fixed_vec.specs.FixedVec.{content}
use Rattle.traversal.proofs.Texts.{not_spread}
use Rattle.traversal.proofs.write.push_arguments.Goals as goal

pub returns-in_err-push : goal.returns-in_err-push
returns-in_err-push c =
    not_spread c.from_residual.result c.args.closings c.loop-slot.after c.loop-slot.slot-index c.in-Some.place _ _ _ c.args.row _ (content c.args.stack.now) (content c.loop-slot.stack) _ c.from_residual.ensures.0 (omega arith) c.in-Some.is c.loop-slot.invariant c.in_err-push.ensures.top.1
