use Rattle.std.proofs.Common.{ap, sym, ◌∙◌}
use Rattle.sheet_reader.proofs.Progress.{gave_up, came, came_not}
use Rattle.reading.specs.declared.fault.SheetFault.TheVariants.{Text}
use Rattle.sheet_reader.proofs.taking.expect.Goals as goal

pub returns-in_err-lexeme : goal.returns-in_err-lexeme
returns-in_err-lexeme c b s u h w r = gave_up b c.from_residual.result _ (c.in_err-lexeme.ensures.reading b s h r) c.from_residual.ensures.1

pub returns-then-is_mark : goal.returns-then-is_mark
returns-then-is_mark c b s u h w r = came b s u c.args.bare c.args.mark w c.in_ok-lexeme.lexeme c.next.new.lexer (c.in_ok-lexeme.ensures.reading b s h r) (sym c.if-is_mark.ensures)

pub returns-else-is_mark : goal.returns-else-is_mark
returns-else-is_mark c b s u h w r = came_not b s u c.args.bare c.args.mark w c.in_ok-lexeme.lexeme c.next.new.lexer (c.in_ok-lexeme.ensures.reading b s h r) c.into.result (sym c.if-is_mark.ensures) (c.into.ensures ∙ ap Text c.misplaced.ensures)
