use Rattle.std.proofs.Common.{reverse, sym, ap, ◌∙◌}
use Rattle.terms.specs.declared.node.Node.{Node}
use Rattle.node_store.specs.Memory.{memory}
use Rattle.stepping.proofs.Copies.{copy_size, copy_starts, copy_step, copy_misses, copy_ends}
use Rattle.stepping.proofs.copying.copy.Goals as goal

pub loop-n-init : goal.loop-n-init
loop-n-init c h s ks t b qs g w is room few =
    let m = memory c.args.store.now in
    let held = w.rows.1.0 in
    let z = c.survey.ensures ks held.2 (sym (ap (λ (n : Node). n.first) (c.node-node.ensures ∙ held.1))) (copy_size m h c.args.place s ks t b qs g w is room few) in
    copy_starts m h c.args.place s ks t b qs g w is room few _ _ _ c.len-n-end.ensures.value z.0 (ap reverse z.1)

pub returns-in_err-source : goal.returns-in_err-source
returns-in_err-source c h s ks t b qs g w e is room few = absurd (copy_misses (memory c.args.store.now) h c.args.place s ks t b qs g w is room few _ _ _ _ _ _ c.loop-n-test.true c.in_err-source.ensures.last (c.loop-n.invariant h s ks t b qs g w is room few))

pub returns-in_err-repeat : goal.returns-in_err-repeat
returns-in_err-repeat c h s ks t b qs g w e is room few =
    let z = (copy_step (memory c.args.store.now) h c.args.place s ks t b qs g w is room few _ _ _ _ _ _ _ _ _ _ c.in_ok-source.ensures.last c.in_err-repeat.ensures (c.loop-n.invariant h s ks t b qs g w is room few)).answer in
    absurd (let y : ⊥ = cc in y)

pub loop-n-preserved : goal.loop-n-preserved
loop-n-preserved c h s ks t b qs g w is room few =
    (copy_step (memory c.args.store.now) h c.args.place s ks t b qs g w is room few _ _ _ _ _ _ _ _ _ _ c.in_ok-source.ensures.last c.in_ok-repeat.ensures (c.loop-n.invariant h s ks t b qs g w is room few)).copying

pub returns : goal.returns
returns c h s ks t b qs g w e is room few =
    let held = w.rows.1.0 in
    copy_ends (memory c.args.store.now) h c.args.place s ks t b qs g w is room few _ _ _ _ _ _ _ _ _ _ _ c.loop-n-test.false (sym (ap (λ (n : Node). n.symbol) (c.node-node.ensures ∙ held.1)) ∙ c.in_ok-node.was) e c.pop-row.ensures.top c.join.ensures (c.loop-n.invariant h s ks t b qs g w is room few)
