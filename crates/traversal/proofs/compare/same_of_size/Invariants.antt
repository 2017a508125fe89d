use Rattle.fixed_vec.specs.FixedVec.{content}
use Rattle.traversal.proofs.Matches.{Matching}
use Rattle.traversal.proofs.compare.same_of_size.Given as goal

abbrev pub invariant-loop-k : goal.invariant-loop-k
invariant-loop-k g l = Matching (g.V.TermView.answers l.first) l.place (g.W.TermView.answers l.second) l.other l.n l._k (content l.places) (content l.others)
