use Rattle.std.proofs.Common.{◌≡◌, ℕ, ◌+◌, ◌*◌, ◌<◌, ◌≤◌, length}
use Rattle.orders.specs.Weights.{coefficient_in}
use Rattle.orders.proofs.weight.Weight.and_times.Given as goal

abbrev pub invariant-loop-x : goal.invariant-loop-x
invariant-loop-x l = record {
  whole : length l.self.coefficients ≡ 8;
  constants : l.self.constant ≡ l.fn.self.constant + l.factor * l.other.constant;
  done : (y : ℕ) → y < l.x → coefficient_in l.self y ≡ coefficient_in l.fn.self y + l.factor * coefficient_in l.other y;
  left : (y : ℕ) → l.x ≤ y → coefficient_in l.self y ≡ coefficient_in l.fn.self y;
}
