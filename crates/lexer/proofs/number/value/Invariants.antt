use Rattle.std.proofs.Common.{◌≡◌, ◌≤◌, drop}
use Rattle.reading.specs.Numbers.{value_after}
use Rattle.lexer.proofs.number.value.Given as goal

abbrev pub invariant-loop-d : goal.invariant-loop-d
invariant-loop-d l = (l.n ≤ l.most) × (value_after l.n (drop l.d-index l.digits) ≡ value_after 0 l.digits)
