use Rattle.std.proofs.Common.{take}
use Rattle.traversal.specs.Bytes.{Puts}
use Rattle.traversal.proofs.write.writer.Writer.put_all.Given as goal

abbrev pub invariant-loop-byte : goal.invariant-loop-byte
invariant-loop-byte l = Puts (take l.byte-index l.bytes) l.initial.self l.self
