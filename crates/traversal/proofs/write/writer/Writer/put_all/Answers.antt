use Rattle.std.proofs.Common.{sym, arith}
use Rattle.std.proofs.lemmas.List.{take_more}
use Rattle.traversal.proofs.Overlays.{puts_both, puts_as}
use Rattle.traversal.proofs.write.writer.Writer.put_all.Goals as goal

pub loop-byte-preserved : goal.loop-byte-preserved
loop-byte-preserved c =
    puts_as (sym (take_more c.args.bytes.now c.loop-byte.byte-index 0 (omega arith))) (puts_both c.loop-byte.invariant c.put.ensures)
