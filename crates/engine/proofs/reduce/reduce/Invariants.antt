use Rattle.fixed_vec.specs.FixedVec.{content}
use Rattle.node_store.specs.Memory.{memory}
use Rattle.engine.proofs.Reductions.{Stepping}
use Rattle.engine.proofs.reduce.reduce.Given as goal

abbrev pub invariant-loop-steps : goal.invariant-loop-steps
invariant-loop-steps l = Stepping (memory l.initial.store) l.rules l.place l.allowed l.steps (memory l.store) (content l.todo)
