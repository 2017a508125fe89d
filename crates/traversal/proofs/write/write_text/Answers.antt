use Rattle.std.proofs.Common.{◌≡◌, Some, rules, arith}
use Rattle.traversal.proofs.Layings.{written}
use Rattle.traversal.proofs.write.write_text.Goals as goal

pub returns : goal.returns
returns g c =
    let counted : c.count_symbols.result ≡ Some c.in_ok-n.n = search (rules, c.in_ok-n.ensures) in
    written _ _ c.args.place c.in_ok-n.n c.lay_text-len.result c.lay_text.result _ _ _ (rw counted at c.count_symbols.ensures) c.lay_text-len.ensures c.lay_text.ensures (omega arith)
