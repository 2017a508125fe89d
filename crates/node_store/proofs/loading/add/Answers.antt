use Rattle.std.proofs.Common.{◌-◌, sym, ap, ◌∙◌, arith}
use Rattle.terms.specs.Nodes.{along}
use Rattle.node_store.specs.Memory.{memory}
use Rattle.node_store.proofs.Cutting.{added_bare, added_over, no_last, ended_long}
use Rattle.node_store.proofs.loading.add.Goals as goal

pub returns-then-n-eq0 : goal.returns-then-n-eq0
returns-then-n-eq0 g c h q qs g' t us w e a s some long =
    added_bare _ (memory c.args.store.now) h q qs g' c.args.place c.in_ok-symbol.symbol t us w a c.arity-n.ensures.few (sym c.in_ok-symbol.ensures) s some c.arity-n.result c.arity-n.ensures.row _ _ (omega (arith, c.if-n-eq0.true))
    (λ x y z k u v. c.join.ensures h x y qs z k u (v ∙ e) long)

pub returns-in_err-last : goal.returns-in_err-last
returns-in_err-last g c h q qs g' t us w e a s some long =
    absurd (no_last _ (memory c.args.store.now) h q qs g' c.args.place c.in_ok-symbol.symbol t us w a c.arity-n.ensures.few (sym c.in_ok-symbol.ensures) s some c.arity-n.result c.arity-n.ensures.row (λ z. c.if-n-eq0.false z)
    (ap (λ l. along (memory c.args.store.now).nodes l (c.arity-n.result - 1)) e ∙ sym c.in_err-last.ensures))

pub returns : goal.returns
returns g c h q qs g' t us w e a s some long =
    added_over _ (memory c.args.store.now) h q qs g' c.args.place c.in_ok-symbol.symbol t us w a c.arity-n.ensures.few (sym c.in_ok-symbol.ensures) s some c.arity-n.result c.arity-n.ensures.row c.in_ok-last.last (memory c.end-next.new.self) _ _ c.end-next.result (λ z. c.if-n-eq0.false z)
    (ap (λ l. along (memory c.args.store.now).nodes l (c.arity-n.result - 1)) e ∙ sym c.in_ok-last.ensures) c.end-next.ensures.memory c.end-next.ensures.next
    (λ x y z k u v. c.join-2.ensures h x y qs z k (u ∙ e) v (ended_long _ _ c.in_ok-last.last c.end-next.ensures.memory long))
