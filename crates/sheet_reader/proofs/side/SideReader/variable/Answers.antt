use Rattle.std.proofs.Common.{rules, None}
use Rattle.terms.specs.Term.{variable}
use Rattle.reading.specs.Reading.{wants, has}
use Rattle.sheet_reader.proofs.Symbols.{variable_begun, variable_keeps}
use Rattle.sheet_reader.proofs.side.SideReader.variable.Goals as goal

pub returns-in_err-check_front-clause-reads : goal.returns-in_err-check_front-clause-reads
returns-in_err-check_front-clause-reads c = λ i l h.
    let begun = variable_begun c.args.self.now c.args.room c.in_ok-behind.behind i c.args.at c.args.x c.check_front.result h (search rules) (c.check_front.ensures c.args.room i (wants i.context) h) in
    search (rules, begun, c.in_err-check_front.was, c.from_residual-in_err-check_front.ensures)

pub returns-in_err-check_variable-clause-reads : goal.returns-in_err-check_variable-clause-reads
returns-in_err-check_variable-clause-reads c = λ i l h.
    let begun = variable_begun c.args.self.now c.args.room c.in_ok-behind.behind i c.args.at c.args.x c.check_front.result h (search rules) (c.check_front.ensures c.args.room i (wants i.context) h) in
    let stands = c.check_variable.ensures c.args.room i l h in
    search (rules, begun, stands, c.in_ok-check_front.was, c.in_err-check_variable.was, c.from_residual-in_err-check_variable.ensures)

pub returns-clause-reads : goal.returns-clause-reads
returns-clause-reads c = λ i l h.
    let begun = variable_begun c.args.self.now c.args.room c.in_ok-behind.behind i c.args.at c.args.x c.check_front.result h (search rules) (c.check_front.ensures c.args.room i (wants i.context) h) in
    let stands = c.check_variable.ensures c.args.room i l h in
    record {
      term = variable c.args.x;
      as_defined = search (rules, begun, stands, c.in_ok-check_front.was, c.in_ok-check_variable.was);
      nodes = search rules;
      keeps = variable_keeps c.args.self.now c.take.new.self c.args.room c.in_ok-behind.behind i c.args.x c.from.result c.args.at (has (variable c.args.x) None i.context) l (search rules) (search rules) h (search rules) (search (rules, stands, c.in_ok-check_variable.was)) (search rules);
    }
