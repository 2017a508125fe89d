use Rattle.fixed_vec.specs.FixedVec.{content}
use Rattle.node_store.specs.Memory.{memory}
use Rattle.engine.proofs.Looks.{Going}
use Rattle.engine.proofs.search.search.Given as goal

abbrev pub invariant-loop-n : goal.invariant-loop-n
invariant-loop-n l = Going (memory l.store) l.rules (content l.initial.todo) l._n (content l.todo)
