use Rattle.stepping.proofs.Copies.{not_repeated, repeated}
use Rattle.stepping.proofs.copying.repeat.Goals as goal

pub returns-in_err-new : goal.returns-in_err-new
returns-in_err-new c = not_repeated _ _ _ _ _ _ _ _ _ _ _ c.node-node.ensures c.is_some.ensures c.is_some-2.ensures c.take-first.ensures c.take-next.ensures _ _ c.in_err-new.ensures

pub returns : goal.returns
returns c = repeated _ _ _ _ _ _ _ _ _ _ _ c.node-node.ensures c.is_some.ensures c.is_some-2.ensures c.take-first.ensures c.take-next.ensures _ _ _ _ _ c.in_ok-node.was c.ok.ensures.value c.push.ensures.top c.in_ok-new.ensures
