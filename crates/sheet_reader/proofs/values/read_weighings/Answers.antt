use Rattle.std.proofs.Common.{[], ◌++◌, refl, arith}
use Rattle.std.proofs.lemmas.Bool.{false≢true}
use Rattle.signature.specs.Declaring.{sig_of}
use Rattle.reading.specs.Reading.{top, wants}
use Rattle.sheet_reading.specs.Sides.{on_left}
use Rattle.sheet_reading.specs.Reading.{has_word, in_rule}
use Rattle.sheet_reader.proofs.Progress.{gave_up, goes_map}
use Rattle.sheet_reader.proofs.Cells.{weighs_on, weighs_closed}
use Rattle.sheet_reader.proofs.Lines.{weighing_begun, wants_rules}
use Rattle.sheet_reader.proofs.values.read_weighings.Goals as goal

pub returns-in_err-read_weighing : goal.returns-in_err-read_weighing
returns-in_err-read_weighing c b at =
    let begun = weighing_begun 0 c.clear.new.self c.clear.ensures refl refl (omega arith) at in
    gave_up b _ _ (c.in_err-read_weighing.ensures b 0 [] begun (λ e. absurd (false≢true e))) c.from_residual.ensures.1

pub returns-in_err-read_second : goal.returns-in_err-read_second
returns-in_err-read_second c b at =
    let begun = weighing_begun 0 c.clear.new.self c.clear.ensures refl refl (omega arith) at in
    let read = c.in_ok-read_weighing.ensures b 0 [] begun (λ e. absurd (false≢true e)) in
    gave_up b _ _ (c.in_err-read_second.ensures b read.0 read.1.lines c.clear-2.ensures read.1.reached) c.from_residual-in_err-read_second.ensures.1

pub returns : goal.returns
returns c b at =
    let sig = sig_of c.args.signature.now in
    let begun = weighing_begun 0 c.clear.new.self c.clear.ensures refl refl (omega arith) at in
    let read = c.in_ok-read_weighing.ensures b 0 [] begun (λ e. absurd (false≢true e)) in
    let further = c.in_ok-read_second.ensures b read.0 read.1.lines c.clear-2.ensures read.1.reached in
    let grid = read.0 ++ further.0 in
    goes_map b c.expect.result _ _ (λ u r. (grid, r, weighs_on c.read_weighing.new.weighing read.0 further.0 0 read.1.lines (weighs_closed c.read_weighing.new.weighing read.0 0 read.1.weighs), further.2))
    (c.expect.ensures b (has_word sig grid) (in_rule sig grid [] on_left (wants top)) (λ place. refl) (wants_rules sig grid) further.1)
