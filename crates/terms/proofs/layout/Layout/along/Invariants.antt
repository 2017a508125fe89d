use Rattle.std.proofs.Common.{◌≡◌, ◌-◌}
use Rattle.terms.specs.Nodes.{along}
use Rattle.terms.specs.Layout.{in_use}
use Rattle.terms.proofs.layout.Layout.along.Given as goal

abbrev pub invariant-loop-k : goal.invariant-loop-k
invariant-loop-k g l = along (in_use l.self) l.link (l.n - l._k) ≡ along (in_use l.self) l.initial.link l.n
