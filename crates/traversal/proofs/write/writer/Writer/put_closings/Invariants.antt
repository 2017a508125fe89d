use Rattle.std.proofs.Common.{replicate}
use Rattle.traversal.specs.Bytes.{Puts}
use Rattle.traversal.proofs.write.writer.Writer.put_closings.Given as goal

abbrev pub invariant-loop-k : goal.invariant-loop-k
invariant-loop-k l = Puts (replicate l._k 41) l.initial.self l.self
