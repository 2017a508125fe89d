use Rattle.std.proofs.Common.{refl, arith}
use Rattle.sheet_reading.specs.Reading.{wants_value, has_value}
use Rattle.sheet_reader.proofs.Lines.{first_comes, other_comes, wants_blank}
use Rattle.sheet_reader.proofs.values.read_blank.Goals as goal

pub returns-then-operator-gt0 : goal.returns-then-operator-gt0
returns-then-operator-gt0 c b sig grid vs n few comes at =
    other_comes b sig grid vs c.args.lexer.now c.expect.new.lexer c.expect.result (omega arith) at
    (λ r. c.expect.ensures b (has_value sig grid vs) (wants_value sig grid vs) (λ place. refl) (wants_blank sig grid vs (omega arith)) r)

pub returns-else-operator-gt0 : goal.returns-else-operator-gt0
returns-else-operator-gt0 c b sig grid vs n few comes at = first_comes vs (omega arith) comes at
