use Rattle.std.proofs.Common.{ℕ, ◌<◌, ◌≤◌}
use Rattle.symbol_order.specs.Counts.{occurrences_held}
use Rattle.symbol_order.proofs.counting.Count.is_at_least.Given as goal

abbrev pub invariant-loop-x : goal.invariant-loop-x
invariant-loop-x l = (y : ℕ) → y < l.x → occurrences_held l.other y ≤ occurrences_held l.self y
