use Rattle.std.proofs.Common.{arith, ◌≡◌, None, Ok, Err, suc, sym, ap, ◌∙◌}
use Rattle.lexer.specs.Lexing.{meaning}
use Rattle.terms.specs.Term.{apply, nil}
use Rattle.reading.specs.declared.fault.SheetFault.TheVariants.{Text}
use Rattle.reading.specs.Reading.{within, wants, has, named, and_then}
use Rattle.sheet_reader.specs.Sides.{stand_in, inside, in_row}
use Rattle.sheet_reader.proofs.Progress.{gave_up, goes_map}
use Rattle.sheet_reader.proofs.Nested.{begins_none, begun_taken, begun_refused, leaf_read, of_eight, bare_read, opens_there, head_fits, nested_read}
use Rattle.sheet_reader.proofs.Rows.{wants_early, has_early, behind_taken, behind_refused, last_read, next_fits, more_read}
use Rattle.sheet_reader.proofs.side.SideReader.+terms.Goals as goal

pub term-returns-in-Instrument-clause-reads : goal.term-returns-in-Instrument-clause-reads
term-returns-in-Instrument-clause-reads t c = λ b i h m. leaf_read i m c.args.self.now c.instrument.new.self c.args.room c.instrument.result (ap meaning c.in-Instrument.is) (c.instrument.ensures.reads i h)

pub term-returns-in-Variable-clause-reads : goal.term-returns-in-Variable-clause-reads
term-returns-in-Variable-clause-reads t c = λ b i h m.
    let it = ap meaning c.in-Variable.is in
    leaf_read i m c.args.self.now c.variable.new.self c.args.room c.variable.result it (c.variable.ensures.reads i (of_eight m it) h)

pub term-returns-in_default-clause-reads : goal.term-returns-in_default-clause-reads
term-returns-in_default-clause-reads t c = λ b i h m.
    let none = begins_none i c.args.lexeme.token c.args.lexeme.at c.in_default.not-Name c.in_default.not-Instrument c.in_default.not-Variable in
    begun_refused i m c.into.result (none ∙ ap (λ f. Err (Text f)) (sym c.unexpected.ensures) ∙ ap Err (sym c.into.ensures))

pub operator-returns-in_err-below-clause-reads : goal.operator-returns-in_err-below-clause-reads
operator-returns-in_err-below-clause-reads t c = λ b i h m. gave_up b c.from_residual.result _ (begun_refused i m c.in_err-below.field-0.0 (c.in_err-below.ensures.reads i h)) c.from_residual.ensures.1

pub operator-returns-in_default-clause-reads : goal.operator-returns-in_default-clause-reads
operator-returns-in_default-clause-reads t c = λ b i h m.
    let w = c.in_ok-below.ensures.reads i h in
    let there = begun_taken i m (named w.operator c.in_ok-below.arity c.args.at i.context) w.as_defined in
    let none : c.in_ok-below.arity ≡ 0 = grind (arith, c.checked_sub.ensures, c.in_default.ensures, c.in_default.not-Some) in
    bare_read i h w none there

pub operator-returns-in_err-open-clause-reads : goal.operator-returns-in_err-open-clause-reads
operator-returns-in_err-open-clause-reads t c = λ b i h m.
    let w = c.in_ok-below.ensures.reads i h in
    let there = begun_taken i m (named w.operator c.in_ok-below.arity c.args.at i.context) w.as_defined in
    let some : c.in_ok-below.arity ≡ suc c.in-Some.more = grind (arith, c.checked_sub.ensures, c.in-Some.is) in
    gave_up b c.from_residual-in_err-open.result _ (c.in_err-open.ensures b i w.operator c.in-Some.more (opens_there i h w some there)) c.from_residual-in_err-open.ensures.1

pub operator-returns-in_err-spare-clause-reads : goal.operator-returns-in_err-spare-clause-reads
operator-returns-in_err-spare-clause-reads t c = λ b i h m.
    let w = c.in_ok-below.ensures.reads i h in
    let there = begun_taken i m (named w.operator c.in_ok-below.arity c.args.at i.context) w.as_defined in
    let some : c.in_ok-below.arity ≡ suc c.in-Some.more = grind (arith, c.checked_sub.ensures, c.in-Some.is) in
    let opened = c.in_ok-open.ensures b i w.operator c.in-Some.more (opens_there i h w some there) in
    gave_up b c.from_residual-in_err-spare.result _ (c.in_err-spare.ensures.reads b i w.operator nil (head_fits i h w c.in-Some.more) opened) c.from_residual-in_err-spare.ensures.1

pub operator-returns-clause-reads : goal.operator-returns-clause-reads
operator-returns-clause-reads t c = λ b i h m.
    let w = c.in_ok-below.ensures.reads i h in
    let there = begun_taken i m (named w.operator c.in_ok-below.arity c.args.at i.context) w.as_defined in
    let some : c.in_ok-below.arity ≡ suc c.in-Some.more = grind (arith, c.checked_sub.ensures, c.in-Some.is) in
    let opened = c.in_ok-open.ensures b i w.operator c.in-Some.more (opens_there i h w some there) in
    nested_read i h w some (c.in_ok-spare.ensures.reads b i w.operator nil (head_fits i h w c.in-Some.more) opened)

pub arguments-returns-in_err-first-clause-reads : goal.arguments-returns-in_err-first-clause-reads
arguments-returns-in_err-first-clause-reads t c = λ b i f ts h g.
    gave_up b c.from_residual.result _ (c.in_err-first.ensures.reading b (stand_in i (wants (within f c.args.at ts c.args.more i.context))) (wants_early i f c.args.at ts c.args.more) g) c.from_residual.ensures.1

pub arguments-returns-in_err-argument-clause-reads : goal.arguments-returns-in_err-argument-clause-reads
arguments-returns-in_err-argument-clause-reads t c = λ b i f ts h g.
    let m = c.in_ok-first.ensures.reading b (stand_in i (wants (within f c.args.at ts c.args.more i.context))) (wants_early i f c.args.at ts c.args.more) g in
    gave_up b c.from_residual-in_err-argument.result _ (c.in_err-argument.ensures.reads b (inside i f c.args.at ts c.args.more) h m) c.from_residual-in_err-argument.ensures.1

pub arguments-returns-in_err-lexeme-clause-reads : goal.arguments-returns-in_err-lexeme-clause-reads
arguments-returns-in_err-lexeme-clause-reads t c = λ b i f ts h g.
    let k = within f c.args.at ts c.args.more i.context in
    let m = c.in_ok-first.ensures.reading b (stand_in i (wants k)) (wants_early i f c.args.at ts c.args.more) g in
    let w = c.in_ok-argument.ensures.reads b (inside i f c.args.at ts c.args.more) h m in
    let behind = has w.term c.in_ok-argument.argument.bare k in
    gave_up b c.from_residual-in_err-lexeme.result _ (c.in_err-lexeme.ensures.reading b (stand_in i behind) (has_early i w.term c.in_ok-argument.argument.bare k) w.goes_on) c.from_residual-in_err-lexeme.ensures.1

pub arguments-returns-in_err-fewer-clause-reads : goal.arguments-returns-in_err-fewer-clause-reads
arguments-returns-in_err-fewer-clause-reads t c = λ b i f ts h g.
    let k = within f c.args.at ts c.args.more i.context in
    let m = c.in_ok-first.ensures.reading b (stand_in i (wants k)) (wants_early i f c.args.at ts c.args.more) g in
    let w = c.in_ok-argument.ensures.reads b (inside i f c.args.at ts c.args.more) h m in
    let n = c.in_ok-lexeme.ensures.reading b (stand_in i (has w.term c.in_ok-argument.argument.bare k)) (has_early i w.term c.in_ok-argument.argument.bare k) w.goes_on in
    gave_up b c.from_residual-in_err-fewer.result _ (behind_refused i n c.in_err-fewer.field-0.0 (c.in_err-fewer.ensures w.term f ts i.context)) c.from_residual-in_err-fewer.ensures.1

pub arguments-returns-in_default-clause-reads : goal.arguments-returns-in_default-clause-reads
arguments-returns-in_default-clause-reads t c = λ b i f ts h g.
    let k = within f c.args.at ts c.args.more i.context in
    let m = c.in_ok-first.ensures.reading b (stand_in i (wants k)) (wants_early i f c.args.at ts c.args.more) g in
    let w = c.in_ok-argument.ensures.reads b (inside i f c.args.at ts c.args.more) h m in
    let n = c.in_ok-lexeme.ensures.reading b (stand_in i (has w.term c.in_ok-argument.argument.bare k)) (has_early i w.term c.in_ok-argument.argument.bare k) w.goes_on in
    let e = c.in_ok-fewer.ensures w.term f ts i.context ∙ ap (λ o. Ok (in_row f c.args.at (and_then ts w.term) o i.context)) c.in_default.is in
    last_read i w (behind_taken i n (has (apply f (and_then ts w.term)) None i.context) e)

pub arguments-returns-clause-reads : goal.arguments-returns-clause-reads
arguments-returns-clause-reads t c = λ b i f ts h g.
    let k = within f c.args.at ts c.args.more i.context in
    let m = c.in_ok-first.ensures.reading b (stand_in i (wants k)) (wants_early i f c.args.at ts c.args.more) g in
    let w = c.in_ok-argument.ensures.reads b (inside i f c.args.at ts c.args.more) h m in
    let n = c.in_ok-lexeme.ensures.reading b (stand_in i (has w.term c.in_ok-argument.argument.bare k)) (has_early i w.term c.in_ok-argument.argument.bare k) w.goes_on in
    let e = c.in_ok-fewer.ensures w.term f ts i.context ∙ ap (λ o. Ok (in_row f c.args.at (and_then ts w.term) o i.context)) c.in-Some.is in
    let there = behind_taken i n (wants (within f c.args.at (and_then ts w.term) c.in-Some.fewer i.context)) e in
    let fits = next_fits i w c.link.new.self c.len-root.ensures.value c.len.ensures.value c.link.ensures c.in-Some.fewer h in
    goes_map b c.arguments.result _ _ (λ spare. more_read i w c.link.new.self c.len-root.ensures.value c.len.ensures.value c.link.ensures) (c.arguments.ensures.reads b i f (and_then ts w.term) fits there)
