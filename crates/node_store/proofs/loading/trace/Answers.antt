use Rattle.std.proofs.Common.{◌≤◌, length, reverse, refl, ap, arith}
use Rattle.fixed_vec.specs.FixedVec.{content}
use Rattle.fixed_vec.proofs.FixedVecs.{first_put}
use Rattle.traversal.specs.Rows.{row_of}
use Rattle.node_store.proofs.Tracing.{first_traced, trace_step, trace_room, trace_end, small, not_added, was_added, not_put, was_put}
use Rattle.node_store.proofs.loading.trace.Goals as goal

pub loop-k-init : goal.loop-k-init
loop-k-init g c t s e few o =
    first_traced _ t c.args.place c.args.n _ _ s e o (first_put c.push.result 16384 (content c.new-stack.result) _ c.args.place (omega arith) (ap reverse c.new-stack.ensures) c.push.ensures.top)

pub returns-in_err-ok-2 : goal.returns-in_err-ok-2
returns-in_err-ok-2 g c t s e few o =
    let w = c.loop-k.invariant t s e few o in
    let full : 16384 ≤ length (content c.loop-k.order) = not_added c.push-in-loop-k.result 16384 _ _ _ c.in_err-ok-2.ensures.value c.push-in-loop-k.ensures.top in
    absurd (let z : ⊥ = omega (arith, small c.args.n few, w.many) in z)

pub returns-in_err-ok-3 : goal.returns-in_err-ok-3
returns-in_err-ok-3 g c t s e few o =
    absurd (trace_room _ t c.args.n c.loop-k._k c.in_ok-top.top _ _ _ c.in_ok-top.ensures.top c.push_arguments.ensures.few few (c.loop-k.invariant t s e few o) (not_put c.push_arguments.result _ _ _ c.in_err-ok-3.ensures.value c.push_arguments.ensures.row))

pub loop-k-preserved : goal.loop-k-preserved
loop-k-preserved g c t s e few o =
    trace_step _ t c.args.n c.loop-k._k c.in_ok-top.top _ _ _ _ _ c.in_ok-top.ensures.top c.push_arguments.ensures.few
    (was_added c.push-in-loop-k.result 16384 _ _ _ c.in_ok-ok-2.field-0 c.in_ok-ok-2.ensures.value c.push-in-loop-k.ensures.top)
    (was_put c.push_arguments.result (row_of (g.V.TermView.answers c.args.view.now) c.in_ok-top.top) (content c.pop.new.self) _ c.in_ok-ok-3.field-0 c.in_ok-ok-3.ensures.value c.push_arguments.ensures.row)
    (c.loop-k.invariant t s e few o)

pub returns : goal.returns
returns g c t s e few o = let x = trace_end _ t c.args.n c.loop-k._k _ _ (omega arith) (c.loop-k.invariant t s e few o) in (refl, x.0, x.1)
