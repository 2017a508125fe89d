use Rattle.std.proofs.Common.{reverse, ap, arith}
use Rattle.fixed_vec.specs.FixedVec.{content}
use Rattle.fixed_vec.proofs.FixedVecs.{first_put}
use Rattle.traversal.proofs.Counts.{at_start, one_more, counted, too_many, not_visited}
use Rattle.traversal.proofs.count.count_symbols.Goals as goal

pub loop-n-init : goal.loop-n-init
loop-n-init g c =
    at_start _ c.args.place _ (first_put c.push.result 16384 (content c.new-stack.result) _ c.args.place (omega arith) (ap reverse c.new-stack.ensures) c.push.ensures.top)

pub returns-in_default : goal.returns-in_default
returns-in_default g c = counted _ c.args.place c.loop-n.n _ c.in_default.ensures.top (omega arith) c.loop-n.invariant

pub returns-in_err-visit : goal.returns-in_err-visit
returns-in_err-visit g c =
    rw c.from_residual-in_err-visit.ensures (not_visited _ c.args.place c.loop-n.n c.in-Some.top _ _ c.in-Some.ensures.top c.loop-n.invariant c.in_err-visit.ensures)

pub loop-n-preserved : goal.loop-n-preserved
loop-n-preserved g c = one_more _ c.args.place c.loop-n.n c.in-Some.top _ _ _ c.in-Some.ensures.top c.loop-n.invariant c.in_ok-visit.ensures

pub returns : goal.returns
returns g c = too_many _ c.args.place c.loop-n.n _ (omega arith) c.loop-n.invariant
