use Rattle.fixed_vec.specs.FixedVec.{content}
use Rattle.traversal.specs.Counting.{Counting}
use Rattle.traversal.proofs.count.count_symbols.Given as goal

abbrev pub invariant-loop-n : goal.invariant-loop-n
invariant-loop-n g l = Counting (g.V.TermView.answers l.view) l.place l.n (content l.stack)
