use Rattle.std.proofs.Common.{◌≡◌, true, eqb, ◌||◌, [], ◌++◌, refl, ap, sym, subst, append-nil, arith}
use Rattle.signature.specs.Declaring.{sig_of}
use Rattle.sheet_reading.specs.Reading.{has_word, rules_may_come}
use Rattle.sheet_reader.specs.Progress.{Reached}
use Rattle.sheet_reader.specs.Weighings.{Weighs}
use Rattle.sheet_reader.proofs.Progress.{gave_up, goes_map}
use Rattle.sheet_reader.proofs.Cells.{weighs_missing, weighs_closed}
use Rattle.sheet_reader.proofs.Lines.{not_taken, weighing_begun}
use Rattle.sheet_reader.proofs.values.read_second.Goals as goal

pub returns-then-take_word : goal.returns-then-take_word
returns-then-take_word c b grid n missing at =
    let sig = sig_of c.args.signature.now in
    let may : rules_may_come grid [] ≡ true = ap (λ k. eqb k 4 || eqb k 8) n in (
      [],
      subst (λ g. Reached b (has_word sig g) c.take_word.new.lexer) (sym (append-nil grid)) (c.if-take_word.ensures b sig grid may at),
      subst (λ g. Weighs c.args.second.now g 4) (sym (append-nil grid)) (weighs_missing c.args.second.now grid 4 missing n refl),
    )

pub returns-in_err-read_weighing : goal.returns-in_err-read_weighing
returns-in_err-read_weighing c b grid n missing at =
    let here = not_taken c.if-take_word.ensures at in
    let begun = weighing_begun 4 c.args.second.now missing n refl (omega arith) here.0 in
    gave_up b _ _ (c.in_err-read_weighing.ensures b 4 grid begun here.1) c.from_residual.ensures.1

pub returns : goal.returns
returns c b grid n missing at =
    let here = not_taken c.if-take_word.ensures at in
    let begun = weighing_begun 4 c.args.second.now missing n refl (omega arith) here.0 in
    let read = c.in_ok-read_weighing.ensures b 4 grid begun here.1 in
    goes_map b c.read_word.result _ _ (λ u r. (read.0, r, weighs_closed c.read_weighing.new.weighing (grid ++ read.0) 4 read.1.weighs))
    (c.read_word.ensures b (sig_of c.args.signature.now) (grid ++ read.0) read.1.lines read.1.reached)
