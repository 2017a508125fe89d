use Rattle.std.proofs.Common.{◌∷◌, cond, reverse}
use Rattle.fixed_vec.specs.FixedVec.{content}
use Rattle.engine.specs.declared.visits.Visit.TheVariants.{Reached}
use Rattle.engine.specs.Revisits.{is_operator}
use Rattle.engine.proofs.Revisiting.{Revisiting}
use Rattle.engine.proofs.reduce.revisit.Given as goal

abbrev pub invariant-loop-k : goal.invariant-loop-k
invariant-loop-k l =
    Revisiting l.visits (reverse l.places) (cond (is_operator l.plan.root.source) (Reached l.place ∷ content l.fn.todo) (content l.fn.todo)) l.k (content l.todo)
