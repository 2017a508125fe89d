use Rattle.std.proofs.Common.{rules, None}
use Rattle.terms.specs.Term.{instrument}
use Rattle.reading.specs.Reading.{has}
use Rattle.sheet_reader.proofs.Symbols.{instrument_begun}
use Rattle.sheet_reader.proofs.side.SideReader.instrument.Goals as goal

pub returns-in_err-check_front-clause-reads : goal.returns-in_err-check_front-clause-reads
returns-in_err-check_front-clause-reads c = λ i h.
    let begun = instrument_begun c.args.self.now c.args.room c.in_ok-behind.behind i c.args.at c.args.part.now c.in_ok-n.n c.check_front.result h (search rules) (search rules) (c.check_front.ensures c.args.room i (has (instrument c.in_ok-n.n) None i.context) h) in
    search (rules, begun, c.in_err-check_front.was, c.from_residual-in_err-check_front.ensures)

pub returns-clause-reads : goal.returns-clause-reads
returns-clause-reads c = λ i h.
    let begun = instrument_begun c.args.self.now c.args.room c.in_ok-behind.behind i c.args.at c.args.part.now c.in_ok-n.n c.check_front.result h (search rules) (search rules) (c.check_front.ensures c.args.room i (has (instrument c.in_ok-n.n) None i.context) h) in
    record { term = instrument c.in_ok-n.n; as_defined = search (rules, begun); nodes = search rules; keeps = search rules }
