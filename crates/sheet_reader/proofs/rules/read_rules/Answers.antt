use Rattle.std.proofs.Common.{◌∙◌, refl, arith}
use Rattle.sheet_reader.specs.Rules.{behind_rules}
use Rattle.sheet_reader.proofs.Progress.{met, ends, gave_up}
use Rattle.sheet_reader.proofs.rules.read_rules.Goals as goal

pub loop-lexeme-init : goal.loop-lexeme-init
loop-lexeme-init c = record { over = refl; going = λ b grid r. r; unjudged = λ e. e }

pub read_rule-requires : goal.read_rule-requires
read_rule-requires c =
    let (b, grid, r) = c.requires in
    (b, grid, met b (behind_rules c.loop-lexeme.sheet grid) c.loop-lexeme.lexer c.in-Some.lexeme c.next_token.new.self (c.loop-lexeme.invariant.going b grid r) c.in-Some.ensures)

pub loop-lexeme-smaller : goal.loop-lexeme-smaller
loop-lexeme-smaller c = let z = c.in_ok-read_rule.ensures.one_more in omega (arith, z.one_more, z.room)

pub loop-lexeme-preserved : goal.loop-lexeme-preserved
loop-lexeme-preserved c = record {
  over = c.in_ok-read_rule.ensures.operators ∙ c.loop-lexeme.invariant.over;
  going = λ b grid r. c.in_ok-read_rule.ensures.goes b grid (met b (behind_rules c.loop-lexeme.sheet grid) c.loop-lexeme.lexer c.in-Some.lexeme c.next_token.new.self (c.loop-lexeme.invariant.going b grid r) c.in-Some.ensures);
  unjudged = λ e. c.in_ok-read_rule.ensures.one_more.unjudged;
}

pub returns-in_err-read_rule-clause-operators : goal.returns-in_err-read_rule-clause-operators
returns-in_err-read_rule-clause-operators c = c.in_err-read_rule.ensures.operators ∙ c.loop-lexeme.invariant.over

pub returns-in_err-read_rule-clause-goes : goal.returns-in_err-read_rule-clause-goes
returns-in_err-read_rule-clause-goes c b grid r e =
    gave_up b c.from_residual.result _
    (c.in_err-read_rule.ensures.goes b grid (met b (behind_rules c.loop-lexeme.sheet grid) c.loop-lexeme.lexer c.in-Some.lexeme c.next_token.new.self (c.loop-lexeme.invariant.going b grid r) c.in-Some.ensures))
    c.from_residual.ensures.1

pub returns-clause-operators : goal.returns-clause-operators
returns-clause-operators c = c.loop-lexeme.invariant.over

pub returns-clause-goes : goal.returns-clause-goes
returns-clause-goes c b grid r e = (ends b (behind_rules c.loop-lexeme.sheet grid) c.loop-lexeme.lexer (c.loop-lexeme.invariant.going b grid r) c.in_default.ensures.0, c.loop-lexeme.invariant.unjudged e)
