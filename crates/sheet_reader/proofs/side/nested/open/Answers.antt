use Rattle.std.proofs.Common.{◌∙◌, ap, sym, Err}
use Rattle.reading.specs.declared.fault.SheetFault.TheVariants.{Text}
use Rattle.sheet_reader.proofs.Nested.{opened, unopened, unended}
use Rattle.sheet_reader.proofs.side.nested.open.Goals as goal

pub returns-in_default : goal.returns-in_default
returns-in_default c = λ b i f n r. unended b i f n c.args.at c.args.lexer.now r c.in_default.ensures.0 ∙ sym (ap Err c.into.ensures)

pub returns-then-is_mark : goal.returns-then-is_mark
returns-then-is_mark c = λ b i f n r. opened b i f n c.args.at c.args.lexer.now c.in-Some.lexeme c.next_token.new.self r c.in-Some.ensures (sym c.is_mark.ensures ∙ c.if-is_mark.true)

pub returns-else-is_mark : goal.returns-else-is_mark
returns-else-is_mark c = λ b i f n r. unopened b i f n c.args.at c.args.lexer.now c.in-Some.lexeme c.next_token.new.self r c.in-Some.ensures (sym c.is_mark.ensures ∙ c.if-is_mark.false) ∙ ap (λ e. Err (Text e)) (sym c.fault_or.ensures) ∙ sym (ap Err c.into-else-is_mark.ensures)
