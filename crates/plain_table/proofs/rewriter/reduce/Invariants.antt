use Rattle.std.proofs.Common.{◌-◌, ◌≤◌}
use Rattle.plain_table.proofs.rewriter.reduce.Given as goal

abbrev pub invariant-loop-after : goal.invariant-loop-after
invariant-loop-after l = l.steps ≤ l.allowed

abbrev pub decreases-loop-after : goal.decreases-loop-after
decreases-loop-after l = l.allowed - l.steps
