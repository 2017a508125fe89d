use Rattle.console.specs.Texts.{seen}
use Rattle.console.proofs.Fronts.{Gathering}
use Rattle.console.proofs.sheet_text.Text+SHEET_BYTES.read_sheet.Given as goal

abbrev pub invariant-loop : goal.invariant-loop
invariant-loop g l = Gathering 32768 (g.R.Read.remaining l.fn.reader) (g.R.Read.remaining l.reader) (seen l.self) l.counter
