use Rattle.std.proofs.Common.{[], refl}
use Rattle.sheet_reading.specs.Reading.{wants_value}
use Rattle.sheet_reader.proofs.Progress.{gave_up}
use Rattle.sheet_reader.proofs.Lines.{met_value, not_taken, past_last}
use Rattle.sheet_reader.proofs.values.read_word.Goals as goal

pub returns-in_err-lexeme : goal.returns-in_err-lexeme
returns-in_err-lexeme c b sig grid n at =
    let here = not_taken c.if-take_word.ensures at in
    gave_up b _ _ (c.in_err-lexeme.ensures.reading b (wants_value sig grid []) (λ place. refl) here.0) c.from_residual.ensures.1

pub returns : goal.returns
returns c b sig grid n at =
    let here = not_taken c.if-take_word.ensures at in
    let wrong = past_last (met_value here.0 here.1 c.in_ok-lexeme.ensures.token) n in
    cc
