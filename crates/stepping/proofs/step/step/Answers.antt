use Rattle.std.proofs.Common.{refl, ap}
use Rattle.terms.specs.declared.node.Node.{Node}
use Rattle.node_store.specs.Memory.{memory}
use Rattle.stepping.proofs.Steps.{prepared, not_built, stepped}
use Rattle.stepping.proofs.step.step.Goals as goal

pub returns-in_err-row : goal.returns-in_err-row
returns-in_err-row c sig rule of planned h root s ks t g work few sp kp sub kept v peeled sizes room =
    let p = c.args.plan.now in
    let m = memory c.args.store.now in
    let b = prepared p sig rule _ kp kept v of planned peeled m h root s ks t g work few c.args.place sp sub _ _ _ _ _ sizes room (ap (λ (n : Node). n.symbol) c.node-symbol.ensures) c.put_under.ensures c.take_apart.ensures c.give_dropped.ensures in
    absurd (not_built p sig rule _ kp kept v of planned peeled m h root s ks t g work few c.args.place sp sub _ _ _ b c.in_err-row.ensures)

pub returns : goal.returns
returns c sig rule of planned h root s ks t g work few sp kp sub kept v peeled sizes room =
    let p = c.args.plan.now in
    let m = memory c.args.store.now in
    let b = prepared p sig rule _ kp kept v of planned peeled m h root s ks t g work few c.args.place sp sub _ _ _ _ _ sizes room (ap (λ (n : Node). n.symbol) c.node-symbol.ensures) c.put_under.ensures c.take_apart.ensures c.give_dropped.ensures in
    (refl, stepped p sig rule _ kp kept v of planned peeled m h root s ks t g work few c.args.place sp sub _ _ _ _ _ b c.finish.ensures c.in_ok-row.ensures)
