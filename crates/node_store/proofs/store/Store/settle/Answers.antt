use Rattle.std.proofs.Common.{sym, ap, ◌∙◌, arith}
use Rattle.node_store.proofs.Turning.{none_gone, none_below, turn_step, settled}
use Rattle.node_store.proofs.store.Store.settle.Goals as goal

pub returns-in_default : goal.returns-in_default
returns-in_default c h qs g w = none_gone _ h qs _ _ c.in_default.is (c.loop-n.invariant h qs g w)

pub returns-in_default-first : goal.returns-in_default-first
returns-in_default-first c h qs g w =
    none_below _ h qs _ _ c.in-Some.root c.in-Some.is (ap (λ n. n.first) (sym c.node.ensures) ∙ c.in_default-first.is) (c.loop-n.invariant h qs g w)

pub loop-n-preserved : goal.loop-n-preserved
loop-n-preserved c h qs g w =
    turn_step _ h qs _ _ _ _ c.in-Some.root c.in-Some-first.low c.turn.ensures (omega arith) c.in-Some.is (ap (λ n. n.first) (sym c.node.ensures) ∙ c.in-Some-first.is) (c.loop-n.invariant h qs g w)

pub returns : goal.returns
returns c h qs g w = settled _ h qs _ _ (omega arith) (c.loop-n.invariant h qs g w)
