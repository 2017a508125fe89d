use Rattle.std.proofs.Common.{ap, sym, ◌∙◌, refl, subst, length-append, arith, length, Ok, Err}
use Rattle.std.proofs.lemmas.Bool.{true≢false}
use Rattle.lexer.specs.Lexing.{what_is_left}
use Rattle.lexer.specs.Lexing.{meaning}
use Rattle.reading.specs.Tokens.{token_bytes}
use Rattle.reader.specs.Heading.{head_of}
use Rattle.sheet_reading.specs.Reading.{headed}
use Rattle.sheet_reader.specs.Progress.{Reached}
use Rattle.sheet_reader.proofs.Progress.{gave_up}
use Rattle.sheet_reader.proofs.Headings.{heading_early, stepped, finished}
use Rattle.sheet_reader.proofs.whole.read_heading.Goals as goal

pub loop-lexer-init : goal.loop-lexer-init
loop-lexer-init c b few r = subst (λ h. Reached b (headed h) c.args.lexer.now) (sym c.new-heading.ensures) r

pub loop-lexer-smaller : goal.loop-lexer-smaller
loop-lexer-smaller c =
    let t = c.in_ok-lexeme.ensures.token in
    omega (arith, t.some_bytes, ap length t.part, length-append (token_bytes (meaning c.in_ok-lexeme.lexeme.token)) (what_is_left c.next.new.lexer))

pub returns-in_err-lexeme : goal.returns-in_err-lexeme
returns-in_err-lexeme c b few r =
    let early = heading_early (head_of c.loop-lexer.heading) (λ d. true≢false (sym (c.is_done.ensures.1 d) ∙ c.loop-lexer-test.true)) in
    gave_up b c.from_residual.result _ (c.in_err-lexeme.ensures.reading b (headed (head_of c.loop-lexer.heading)) early (c.loop-lexer.invariant b few r)) c.from_residual.ensures.1

pub loop-lexer-preserved : goal.loop-lexer-preserved
loop-lexer-preserved c b few r =
    stepped b (head_of c.loop-lexer.heading) (head_of c.step.new.self) c.in_ok-lexeme.lexeme c.loop-lexer.lexer c.next.new.lexer (Ok tt) few (λ d. true≢false (sym (c.is_done.ensures.1 d) ∙ c.loop-lexer-test.true)) (c.loop-lexer.invariant b few r) c.in_ok-lexeme.ensures.token c.in_ok-step.ensures.next

pub returns-in_err-step : goal.returns-in_err-step
returns-in_err-step c b few r =
    gave_up b c.from_residual-in_err-step.result _
    (stepped b (head_of c.loop-lexer.heading) (head_of c.step.new.self) c.in_ok-lexeme.lexeme c.loop-lexer.lexer c.next.new.lexer (Err c.in_err-step.field-0.0) few (λ d. true≢false (sym (c.is_done.ensures.1 d) ∙ c.loop-lexer-test.true)) (c.loop-lexer.invariant b few r) c.in_ok-lexeme.ensures.token c.in_err-step.ensures.next)
    c.from_residual-in_err-step.ensures.1

pub returns : goal.returns
returns c b few r = finished b (head_of c.loop-lexer.heading) c.loop-lexer.lexer c.finish.result (c.is_done.ensures.0 c.loop-lexer-test.false) (c.loop-lexer.invariant b few r) (c.finish.ensures (head_of c.loop-lexer.heading) refl)
