use Rattle.weighing.proofs.Rows.{values_neutral}
use Rattle.weighing.proofs.Weighing.missing.Goals as goal

pub returns : goal.returns
returns c line f h = values_neutral c.neutral.result c.neutral.ensures 32 line f
