use Rattle.std.proofs.Common.{◌-◌, List}
use Rattle.node_store.specs.Memory.{memory}
use Rattle.node_store.specs.Placed.{Placed, Held}
use Rattle.node_store.specs.Work.{Work, Turned}
use Rattle.node_store.proofs.store.Store.settle.Given as goal

abbrev pub invariant-loop-n : goal.invariant-loop-n
invariant-loop-n l = (h : Held) (qs : List Placed) (g : Placed) → Work (memory l.initial.self) h qs g → Turned (memory l.initial.self) h qs (memory l.self) (l._n-end - l._n)
