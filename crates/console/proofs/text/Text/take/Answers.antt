use Rattle.std.proofs.Common.{arith}
use Rattle.console.specs.Texts.{seen}
use Rattle.console.proofs.Lines.{going_on}
use Rattle.console.proofs.text.Text.take.Goals as goal

pub loop-i-preserved : goal.loop-i-preserved
loop-i-preserved g c = going_on g.row.N (seen c.args.self.now) c.args.bytes.now c.loop-i.i (seen c.loop-i.self) (seen c.push.new.self) c.loop-i.invariant (omega arith) (λ e. omega arith) c.push.ensures
