use Rattle.std.proofs.Common.{◌≡◌, ◌-◌, [], ◌∷◌, ap, ◌∙◌, length, take, drop, arith}
use Rattle.std.proofs.lemmas.Slice.{between_to_end}
use Rattle.std.proofs.lemmas.Iterator.{YieldsList-from_slice, YieldsList-from_take}
use Rattle.std.proofs.lemmas.Iterator.Consumers.{YieldsList-at, YieldsList-from_copied, count_from_yields_List}
use Rattle.std.proofs.lemmas.Iterator.Search.{YieldsList-from_take_while}
use Rattle.lexer.proofs.Runs.{run_is}
use Rattle.lexer.proofs.cutting.run.Goals as goal

pub returns : goal.returns
returns g c = λ p d.
    let text = c.args.text.now in
    let rest : take (length text - 1) (drop 1 text) ≡ drop 1 text = between_to_end text 1 (length text) (omega arith) in
    let road = YieldsList-from_take_while _ p (YieldsList-at c.take_while.ensures.source (YieldsList-from_take c.args.most (YieldsList-at c.take.ensures.source (YieldsList-from_copied (YieldsList-at c.copied.ensures.source (YieldsList-from_slice (drop 1 text) (cc rest))))) c.take.ensures.count)) c.take_while.ensures.closure c.take_while.ensures.done (λ x b q k. (g.met.F.Fn.1.step_stays _ _ _ _ k.called, (d.at ((k.shown, tt) ∷ []) b q k.called).0 ∙ ap p k.shows)) in
    run_is p c.args.most text c.count-behind.result (omega arith) (count_from_yields_List c.take_while.result c.count-behind.result c.count-behind.ensures.ran road)
