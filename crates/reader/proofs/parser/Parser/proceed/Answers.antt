use Rattle.std.proofs.Common.{◌≡◌, suc, length, Some, Ok, ap, arith, rules}
use Rattle.reader.specs.declared.parser.Whole.{Whole}
use Rattle.reader.specs.Parsing.{stack_nodes}
use Rattle.reader.proofs.Parsing.{continue_holds}
use Rattle.reader.proofs.parser.Parser.proceed.Goals as goal

pub returns : goal.returns
returns c = λ t k h r.
    let popped : c.pop.result ≡ Some c.in_ok-frame.frame = search (rules, c.in_ok-frame.ensures) in
    let less : c.checked_sub.result ≡ Some c.in_ok-left.left = search (rules, c.in_ok-left.ensures) in
    let fell : suc c.in_ok-left.left ≡ c.in_ok-frame.frame.left = grind (arith, less, c.checked_sub.ensures) in
    let same : c.args.read ≡ record { root = length (stack_nodes k); bare = c.args.read.bare } = cc (c.requires, h.phase_is) in
    let pushed : c.push.result ≡ Ok _ = search (rules, c.in_ok-map_err.ensures) in
    continue_holds c.args.self.now c.link.new.self c.pop.new.self c.push.new.self c.in_ok-frame.frame c.args.at c.args.read.root c.in_ok-left.left c.len-next.result t c.args.read.bare k h (ap (λ (w : Whole). w.root) same) (rw popped at c.pop.ensures.top) fell c.len-next.ensures.value c.link.ensures (rw pushed at c.push.ensures.top)
