use Rattle.std.proofs.Common.{ℕ, ◌<◌, ◌≤◌}
use Rattle.orders.specs.Weights.{coefficient_in}
use Rattle.orders.proofs.weight.Weight.is_at_least.Given as goal

abbrev pub invariant-loop-x : goal.invariant-loop-x
invariant-loop-x l = (y : ℕ) → y < l.x → coefficient_in l.other y ≤ coefficient_in l.self y
