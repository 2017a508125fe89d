use Rattle.std.proofs.Common.{[], ◌∷◌, ◌++◌, refl, arith}
use Rattle.signature.specs.Declaring.{sig_of}
use Rattle.sheet_reading.specs.Reading.{wants_value, has_value}
use Rattle.sheet_reader.proofs.Progress.{gave_up, goes_map}
use Rattle.sheet_reader.proofs.Lines.{some_operators, behind_some, next_reached, line_done, value_more, wants_line_end}
use Rattle.sheet_reader.proofs.values.read_line.Goals as goal

pub loop-operator-init : goal.loop-operator-init
loop-operator-init c b from grid h comes = record { values = []; count = refl; here = h; comes = comes }

pub returns-in_err-read_blank : goal.returns-in_err-read_blank
returns-in_err-read_blank c b from grid h comes =
    let x = c.loop-operator.invariant b from grid h comes in
    gave_up b _ _ (c.in_err-read_blank.ensures b (sig_of c.args.signature.now) grid x.values x.count (omega (arith, c.len-operator-end.ensures.value)) x.comes x.here.reached)
    c.from_residual.ensures.1

pub returns-in_err-read_value : goal.returns-in_err-read_value
returns-in_err-read_value c b from grid h comes =
    let x = c.loop-operator.invariant b from grid h comes in
    let wanted = c.in_ok-read_blank.ensures b (sig_of c.args.signature.now) grid x.values x.count (omega (arith, c.len-operator-end.ensures.value)) x.comes x.here.reached in
    gave_up b _ _ (c.in_err-read_value.ensures b from grid x.values x.count (next_reached x.here wanted.0) wanted.1) c.from_residual-in_err-read_value.ensures.1

pub loop-operator-preserved : goal.loop-operator-preserved
loop-operator-preserved c b from grid h comes =
    let x = c.loop-operator.invariant b from grid h comes in
    let wanted = c.in_ok-read_blank.ensures b (sig_of c.args.signature.now) grid x.values x.count (omega (arith, c.len-operator-end.ensures.value)) x.comes x.here.reached in
    let read = c.in_ok-read_value.ensures b from grid x.values x.count (next_reached x.here wanted.0) wanted.1 in
    value_more x.values read.0 x.count read.1

pub returns : goal.returns
returns c b from grid h comes =
    let x = c.loop-operator.invariant b from grid h comes in
    let sig = sig_of c.args.signature.now in
    let some = some_operators h.reached in
    let here = behind_some x.values x.here.reached (omega (arith, c.len-operator-end.ensures.value)) in
    goes_map b c.expect.result _ _ (λ u r. (x.values, line_done x.here r))
    (c.expect.ensures b (has_value sig grid x.values) (wants_value sig (grid ++ (x.values ∷ [])) []) (λ at. refl) (wants_line_end sig grid x.values (omega (arith, c.len-operator-end.ensures.value))) here)
