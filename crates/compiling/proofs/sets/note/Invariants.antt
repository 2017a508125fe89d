use Rattle.compiling.proofs.Noting.{NotedBelow}
use Rattle.compiling.proofs.sets.note.Given as goal

abbrev pub invariant-loop-operator : goal.invariant-loop-operator
invariant-loop-operator l = NotedBelow l.initial.operators l.operators l.rule l.wanted l.operator
