use Rattle.signature.specs.Declaring.{sig_of}
use Rattle.fixed_vec.specs.FixedVec.{content}
use Rattle.traversal.specs.Pendings.{Laying}
use Rattle.traversal.proofs.write.lay_text.Given as goal

abbrev pub invariant-loop-k : goal.invariant-loop-k
invariant-loop-k g l = Laying (sig_of l.signature) (g.V.TermView.answers l.view) l.place l.n l._k (content l.stack) l.initial.writer l.writer
