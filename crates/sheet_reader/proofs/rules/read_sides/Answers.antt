use Rattle.std.proofs.Common.{refl, ap, ◌∙◌}
use Rattle.signature.specs.Declaring.{sig_of}
use Rattle.reading.specs.Reading.{top, wants}
use Rattle.sheet_reading.specs.Sides.{on_left, on_right}
use Rattle.sheet_reading.specs.Reading.{in_rule}
use Rattle.sheet_reader.specs.Rules.{outermost}
use Rattle.sheet_reader.proofs.Progress.{gave_up}
use Rattle.sheet_reader.proofs.rules.read_sides.Goals as goal

pub returns-in_err-read_side : goal.returns-in_err-read_side
returns-in_err-read_side c b grid before e m =
    let sig = sig_of c.args.signature.now in
    let room = c.of_side-room.result in
    let f = c.left-left.ensures room (outermost sig grid before on_left) refl refl refl (c.of_side-room.ensures (outermost sig grid before on_left) e refl) in
    gave_up b c.from_residual.result _ (c.in_err-read_side.ensures b sig grid before on_left refl f m) c.from_residual.ensures.1

pub returns-in_err-first : goal.returns-in_err-first
returns-in_err-first c b grid before e m =
    let sig = sig_of c.args.signature.now in
    let room = c.of_side-room.result in
    let f = c.left-left.ensures room (outermost sig grid before on_left) refl refl refl (c.of_side-room.ensures (outermost sig grid before on_left) e refl) in
    let z = c.in_ok-read_side.ensures b sig grid before on_left refl f m in
    gave_up b c.from_residual-in_err-first.result _ (c.in_err-first.ensures.reading b (in_rule sig grid before (on_right z.side) (wants top)) (λ at. refl) z.goes_on) c.from_residual-in_err-first.ensures.1

pub returns-in_err-read_side-2 : goal.returns-in_err-read_side-2
returns-in_err-read_side-2 c b grid before e m =
    let sig = sig_of c.args.signature.now in
    let room = c.of_side-room.result in
    let f = c.left-left.ensures room (outermost sig grid before on_left) refl refl refl (c.of_side-room.ensures (outermost sig grid before on_left) e refl) in
    let z = c.in_ok-read_side.ensures b sig grid before on_left refl f m in
    let n = c.in_ok-first.ensures.reading b (in_rule sig grid before (on_right z.side) (wants top)) (λ at. refl) z.goes_on in
    let i = outermost sig grid before (on_right z.side) in
    let g = c.right-right.ensures room i z.side (ap (λ s. sig_of s.now) z.signature ∙ f.operators) z.marked refl refl (c.of_side-room.ensures i e refl) in
    gave_up b c.from_residual-in_err-read_side-2.result _ (c.in_err-read_side-2.ensures b sig grid before (on_right z.side) refl g n) c.from_residual-in_err-read_side-2.ensures.1

pub returns : goal.returns
returns c b grid before e m =
    let sig = sig_of c.args.signature.now in
    let room = c.of_side-room.result in
    let f = c.left-left.ensures room (outermost sig grid before on_left) refl refl refl (c.of_side-room.ensures (outermost sig grid before on_left) e refl) in
    let z = c.in_ok-read_side.ensures b sig grid before on_left refl f m in
    let n = c.in_ok-first.ensures.reading b (in_rule sig grid before (on_right z.side) (wants top)) (λ at. refl) z.goes_on in
    let i = outermost sig grid before (on_right z.side) in
    let g = c.right-right.ensures room i z.side (ap (λ s. sig_of s.now) z.signature ∙ f.operators) z.marked refl refl (c.of_side-room.ensures i e refl) in
    let y = c.in_ok-read_side-2.ensures b sig grid before (on_right z.side) refl g n in
    record { rule = record { left = z.side; right = y.side }; goes_on = y.goes_on; left_laid = z.nodes; right_laid = y.nodes }
