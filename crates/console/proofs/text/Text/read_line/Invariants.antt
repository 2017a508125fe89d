use Rattle.console.specs.Texts.{seen}
use Rattle.console.proofs.Endings.{Collecting}
use Rattle.console.proofs.text.Text.read_line.Given as goal

abbrev pub invariant-loop : goal.invariant-loop
invariant-loop g l = Collecting g.row.N (g.R.Read.remaining l.fn.reader) (g.R.Read.remaining l.reader) (seen l.self) l.ending l.counter
