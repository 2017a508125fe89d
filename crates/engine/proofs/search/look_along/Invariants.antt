use Rattle.std.proofs.Common.{◌∷◌}
use Rattle.fixed_vec.specs.FixedVec.{content}
use Rattle.node_store.specs.Memory.{memory}
use Rattle.engine.specs.declared.visits.Visit.TheVariants.{Fresh}
use Rattle.engine.proofs.Looks.{Going}
use Rattle.engine.proofs.search.look_along.Given as goal

abbrev pub invariant-loop-n : goal.invariant-loop-n
invariant-loop-n l = Going (memory l.store) l.rules (Fresh l.first ∷ content l.initial.todo) l._n (Fresh l.place ∷ content l.todo)
