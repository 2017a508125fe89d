use Rattle.std.proofs.Common.{sym}
use Rattle.sheet_reader.proofs.Progress.{word_came}
use Rattle.sheet_reader.proofs.taking.take_word.Goals as goal

pub returns-in-Some : goal.returns-in-Some
returns-in-Some c b sig grid may r = word_came b sig grid c.args.lexer.now c.next_token.new.self c.in-Some.lexeme may r c.in-Some.ensures (sym c.if-is_word.ensures)
