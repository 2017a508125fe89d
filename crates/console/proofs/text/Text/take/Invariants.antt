use Rattle.console.specs.Texts.{seen}
use Rattle.console.proofs.Lines.{Going}
use Rattle.console.proofs.text.Text.take.Given as goal

abbrev pub invariant-loop-i : goal.invariant-loop-i
invariant-loop-i g l = Going g.row.N (seen l.initial.self) l.bytes l.i (seen l.self)
