use Rattle.std.proofs.Common.{arith, ◌≡◌, [], ap, reverse}
use Rattle.fixed_vec.specs.FixedVec.{items}
use Rattle.reader.proofs.Parsing.{finish_holds}
use Rattle.reader.proofs.parser.Parser.finish.Goals as goal

pub returns-in-Has : goal.returns-in-Has
returns-in-Has c = λ s h.
    let none : items c.args.self.frames ≡ [] = grind arith in
    finish_holds c.args.self _ c.args.at s h c.in-Has.is (ap reverse none)
