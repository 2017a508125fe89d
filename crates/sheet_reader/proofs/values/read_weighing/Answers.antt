use Rattle.std.proofs.Common.{◌≡◌, ℕ, [], ◌++◌, subst, arith}
use Rattle.signature.specs.Declaring.{sig_of}
use Rattle.sheet_reading.specs.Reading.{wants_value}
use Rattle.sheet_reader.specs.Values.{InWeighing}
use Rattle.sheet_reader.proofs.Progress.{gave_up}
use Rattle.sheet_reader.proofs.Lines.{no_lines, line_more}
use Rattle.sheet_reader.proofs.values.read_weighing.Goals as goal

pub loop-line-init : goal.loop-line-init
loop-line-init c b from grid h comes = no_lines h comes

pub returns-in_err-read_line : goal.returns-in_err-read_line
returns-in_err-read_line c b from grid h comes =
    let x = c.loop-line.invariant b from grid h comes in
    gave_up b _ _ (c.in_err-read_line.ensures b from (grid ++ x.more) x.here (x.comes c.loop-line-test.true)) c.from_residual.ensures.1

pub loop-line-preserved : goal.loop-line-preserved
loop-line-preserved c b from grid h comes =
    let x = c.loop-line.invariant b from grid h comes in
    let read = c.in_ok-read_line.ensures b from (grid ++ x.more) x.here (x.comes c.loop-line-test.true) in
    line_more x.more read.0 read.1

pub returns : goal.returns
returns c b from grid h comes =
    let x = c.loop-line.invariant b from grid h comes in
    let four : c.loop-line.line ≡ 4 = omega arith in
    let P = λ (n : ℕ). InWeighing b (wants_value (sig_of c.args.signature.now) (grid ++ x.more) []) from n (grid ++ x.more) [] c.loop-line.lexer c.loop-line.weighing in
    (x.more, subst P four x.here)
