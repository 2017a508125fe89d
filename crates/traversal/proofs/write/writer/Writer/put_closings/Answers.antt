use Rattle.std.proofs.lemmas.List.{replicate_more}
use Rattle.traversal.proofs.Overlays.{puts_both, puts_as}
use Rattle.traversal.proofs.write.writer.Writer.put_closings.Goals as goal

pub loop-k-preserved : goal.loop-k-preserved
loop-k-preserved c = puts_as (replicate_more c.loop-k._k 41) (puts_both c.loop-k.invariant c.put.ensures)
