use Rattle.std.proofs.Common.{◌≤◌, ap, ◌∙◌, sym, subst, length, arith}
use Rattle.fixed_vec.specs.FixedVec.{items}
use Rattle.terms.specs.declared.node.Node.{Node}
use Rattle.engine.specs.Searching.{Begins, FitsOr}
use Rattle.engine.proofs.Candidates.{no_candidate, first_try, next_try, none_left, fits, tried}
use Rattle.engine.proofs.search.find.Goals as goal

pub returns-then-is_empty : goal.returns-then-is_empty
returns-then-is_empty c = λ sig rules over is s ks t shows a.
    no_candidate c.args.rules.now s c.beginning-begin.result (c.is_empty.ensures.0 c.if-is_empty.true)
    (subst (λ z. Begins c.args.rules.now z c.beginning-begin.result) (ap (λ (x : Node). x.symbol) c.node-node.ensures ∙ shows.symbol) c.beginning-begin.ensures) sig rules over is ks t a

pub loop-n-init : goal.loop-n-init
loop-n-init c = λ sig rules over is s ks t shows a.
    first_try rules t c.narrowed-rest.result
    (c.narrowed-rest.ensures rules is s ks t shows.row (sym (ap (λ (x : Node). x.first) c.node-node.ensures ∙ shows.first)) a
    (subst (λ z. Begins c.args.rules.now z c.beginning-begin.result) (ap (λ (x : Node). x.symbol) c.node-node.ensures ∙ shows.symbol) c.beginning-begin.ensures sig rules over is ks t a))

pub returns-in_err-i : goal.returns-in_err-i
returns-in_err-i c = λ sig rules over is s ks t shows a.
    subst (λ o. FitsOr rules ks t (items c.loop-n.places) o) (sym c.from_residual.ensures) (none_left rules t c.loop-n.rest (c.loop-n.invariant sig rules over is s ks t shows a).left c.in_err-i.ensures.none)

pub returns-in_err-plan : goal.returns-in_err-plan
returns-in_err-plan c = λ sig rules over is s ks t shows a.
    let d = c.loop-n.invariant sig rules over is s ks t shows a in
    let k : length rules ≤ c.in_ok-i.i = c.in_err-plan.ensures rules is in
    absurd (let z = d.left.known c.in_ok-i.i c.in_ok-i.ensures.member in let y : ⊥ = omega arith in y)

pub returns-then-matches : goal.returns-then-matches
returns-then-matches c = λ sig rules over is s ks t shows a.
    fits rules s ks t a _ c.args.place shows c.loop-n._n c.in_ok-i.i c.loop-n.rest (c.loop-n.invariant sig rules over is s ks t shows a) c.in_ok-i.ensures.member c.in_ok-i.ensures.least c.in_ok-plan.plan.now (c.in_ok-plan.ensures rules is)
    c.node-node.result.first (ap (λ (x : Node). x.first) c.node-node.ensures) _ c.if-matches.ensures

pub loop-n-preserved : goal.loop-n-preserved
loop-n-preserved c = λ sig rules over is s ks t shows a.
    next_try rules s ks t a _ c.args.place shows c.loop-n._n c.in_ok-i.i c.loop-n.rest (c.loop-n.invariant sig rules over is s ks t shows a) c.in_ok-i.ensures.member c.in_ok-i.ensures.least c.in_ok-plan.plan.now (c.in_ok-plan.ensures rules is)
    c.node-node.result.first (ap (λ (x : Node). x.first) c.node-node.ensures) (items c.matches.new.places) c.without-rest.result c.without-rest.ensures c.if-matches.ensures

pub returns : goal.returns
returns c = λ sig rules over is s ks t shows a. let few = is.few in tried rules t c.loop-n._n c.loop-n.rest (omega arith) (c.loop-n.invariant sig rules over is s ks t shows a)
