use Rattle.std.proofs.Common.{refl}
use Rattle.sheet_reading.specs.Reading.{wants_value}
use Rattle.sheet_reader.proofs.Progress.{gave_up}
use Rattle.sheet_reader.proofs.Lines.{met_value, number_judged}
use Rattle.sheet_reader.proofs.values.read_number.Goals as goal

pub returns-in_err-lexeme-clause-value : goal.returns-in_err-lexeme-clause-value
returns-in_err-lexeme-clause-value c b sig grid vs a = gave_up b _ _ (c.in_err-lexeme.ensures.reading b (wants_value sig grid vs) (λ at. refl) a.reached) c.from_residual.ensures.1

pub returns-clause-value : goal.returns-clause-value
returns-clause-value c b sig grid vs a = number_judged a (met_value a.reached a.comes c.in_ok-lexeme.ensures.token) c.number_of.result c.number_of.ensures.value
