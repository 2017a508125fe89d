use Rattle.std.proofs.Common.{arith, ◌≡◌, Some, rules}
use Rattle.reader.proofs.Parsing.{close_holds}
use Rattle.reader.proofs.parser.Parser.close.Goals as goal

pub returns : goal.returns
returns c = λ t m k h.
    let popped : c.pop.result ≡ Some c.in_ok-frame.frame = search (rules, c.in_ok-frame.ensures) in
    close_holds c.args.self.now c.pop.new.self c.in_ok-frame.frame c.args.at t m k h (rw popped at c.pop.ensures.top) (omega arith)
