use Rattle.std.proofs.Common.{◌≡◌, ◌-◌}
use Rattle.terms.specs.Nodes.{along}
use Rattle.node_store.specs.Memory.{memory}
use Rattle.node_store.proofs.store.Store.along.Given as goal

abbrev pub invariant-loop-k : goal.invariant-loop-k
invariant-loop-k l = along (memory l.self).nodes l.link (l.n - l._k) ≡ along (memory l.self).nodes l.initial.link l.n
