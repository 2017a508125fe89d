use Rattle.std.proofs.Common.{sym, subst}
use Rattle.sheet_reading.specs.Reading.{in_rule, behind_side}
use Rattle.reading.specs.Reading.{has, top}
use Rattle.sheet_reader.specs.Progress.{Wants}
use Rattle.sheet_reader.specs.Rules.{outermost}
use Rattle.sheet_reader.proofs.Progress.{gave_up, goes_map}
use Rattle.sheet_reader.proofs.Storing.{side_ends, early, side_read}
use Rattle.sheet_reader.proofs.rules.read_side.Goals as goal

pub returns-in_err-read : goal.returns-in_err-read
returns-in_err-read c b sig grid rules d ends f m = gave_up b c.from_residual.result _ (c.in_err-read.ensures.reads b (outermost sig grid rules d) f m) c.from_residual.ensures.1

pub returns : goal.returns
returns c b sig grid rules d ends f m =
    let z = c.in_ok-read.ensures.reads b (outermost sig grid rules d) f m in
    let u = behind_side sig grid rules d z.term in
    let w = subst (λ k. Wants (in_rule sig grid rules d (has z.term c.in_ok-read.read.bare top)) c.in_ok-read.read.bare k u) (sym ends) (side_ends sig grid rules d z.term c.in_ok-read.read.bare) in
    goes_map b c.expect.result _ _ (λ done there. side_read b sig grid rules d c.args.room c.args.side.now c.term.new.self c.in_ok-read.read c.term.new.lexer c.expect.new.lexer f z there)
    (c.expect.ensures b (in_rule sig grid rules d (has z.term c.in_ok-read.read.bare top)) u (early b sig grid rules d c.args.room c.args.side.now c.term.new.self c.in_ok-read.read c.term.new.lexer z.term c.in_ok-read.read.bare) w z.goes_on)
