use Rattle.std.proofs.Common.{suc, ◌+◌, ◌≤◌, List, ◌∷◌, length, reverse, ap, arith}
use Rattle.fixed_vec.specs.FixedVec.{items, content}
use Rattle.terms.specs.Term.{symbols}
use Rattle.terms.specs.Signature.{Sig}
use Rattle.terms.specs.Substitution.{fill}
use Rattle.terms.specs.Rule.{Rule, RuleOf}
use Rattle.traversal.specs.Walks.{most_symbols}
use Rattle.rewriting.specs.Bindings.{Bindings, bound}
use Rattle.node_store.specs.Memory.{memory}
use Rattle.node_store.specs.Placed.{Placed, Held}
use Rattle.node_store.specs.Work.{Work, size_all}
use Rattle.node_store.specs.Loading.{arguments_of}
use Rattle.node_store.proofs.Tracing.{was_added, not_added}
use Rattle.compiled.specs.Symbols.{parts_under}
use Rattle.compiled.specs.Plans.{Planned}
use Rattle.matching.specs.Peeling.{Peeled}
use Rattle.stepping.specs.Building.{rows_in}
use Rattle.stepping.proofs.Buildings.{ready, build_starts, NextBuilt, build_step, pushed, not_built, build_ends}
use Rattle.stepping.proofs.building.build.Goals as goal
use Rattle.stepping.proofs.building.build.Goals.{After-build_piece}

turn : (c : After-build_piece) (sig : Sig) (rule : Rule) → RuleOf sig rule → Planned rule c.args.plan.now → (kp : Placed) (kept : List Placed) (v : Bindings) → Peeled (arguments_of rule.left) kp (items c.args.places.now) kept v
    → (h : Held) (g : Placed) → Work (memory c.args.store.now) h (rows_in (rule.right ∷ parts_under rule.right) v kept) g → length (memory c.args.store.now).nodes ≤ most_symbols
    → symbols (fill (bound v) rule.right) ≤ suc ((memory c.args.store.now).free + size_all (rows_in (rule.right ∷ parts_under rule.right) v kept))
    → NextBuilt (memory c.args.store.now) c.args.plan.now rule kept v h c.loop-i.i (memory c.build_piece.new.store) (content c.take-next.new.stack) (content c.loop-i.made) c.build_piece.result
turn c sig rule r d kp kept v e h g w few room =
    build_step c.args.plan.now rule _ kp kept v (ready c.args.plan.now sig rule _ kp kept v r d e) h (memory c.args.store.now) few _ _ _ _ _ _ _ _ _ _ _ _ c.loop-i-test.true c.as_slice-pieces.ensures.value c.take-first.ensures c.take-next.ensures c.build_piece.ensures (c.loop-i.invariant sig rule r d kp kept v e h g w few room)

pub loop-i-init : goal.loop-i-init
loop-i-init c sig rule r d kp kept v e h g w few room = build_starts c.args.plan.now rule _ kp kept v (ready c.args.plan.now sig rule _ kp kept v r d e) h (memory c.args.store.now) few _ g _ _ (ap length c.as_slice-pieces.ensures.value) (ap reverse c.new-rows.ensures) (ap reverse c.clear.ensures) w room

pub loop-i-preserved : goal.loop-i-preserved
loop-i-preserved c sig rule r d kp kept v e h g w few room =
    let s = turn (goal.at.loop-i-preserved c).After-build_piece sig rule r d kp kept v e h g w few room in
    pushed _ _ rule kept v h _ _ _ _ _ _ _ _ c.in_ok-place.was (was_added c.push-in-loop-i.result _ _ _ _ c.in_ok-ok-2.field-0 c.in_ok-ok-2.ensures.value c.push-in-loop-i.ensures.top) (was_added c.push.result _ _ _ _ c.in_ok-ok.field-0 c.in_ok-ok.ensures.value c.push.ensures.top) s

pub returns-in_err-place : goal.returns-in_err-place
returns-in_err-place c sig rule r d kp kept v e h g w few room = absurd (not_built _ _ rule kept v h _ _ _ _ _ c.in_err-place.was (turn (goal.at.returns-in_err-place c).After-build_piece sig rule r d kp kept v e h g w few room))

pub returns-in_err-ok : goal.returns-in_err-ok
returns-in_err-ok c sig rule r d kp kept v e h g w few room =
    let s = turn (goal.at.returns-in_err-ok c).After-build_piece sig rule r d kp kept v e h g w few room in
    let full : 32 ≤ length (content c.loop-i.made) = not_added c.push.result _ _ _ _ c.in_err-ok.ensures.value c.push.ensures.top in
    absurd (let z : ⊥ = omega (arith, s.fits, ap length c.as_slice-pieces.ensures.value, c.as_slice-pieces.ensures.few) in z)

pub returns-in_err-ok-2 : goal.returns-in_err-ok-2
returns-in_err-ok-2 c sig rule r d kp kept v e h g w few room =
    let s = turn (goal.at.returns-in_err-ok-2 c).After-build_piece sig rule r d kp kept v e h g w few room in
    let full : 32 ≤ length (content c.take-next.new.stack) = not_added c.push-in-loop-i.result _ _ _ _ c.in_err-ok-2.ensures.value c.push-in-loop-i.ensures.top in
    absurd (let z : ⊥ = omega (arith, s.room, s.fits, ap length c.as_slice-pieces.ensures.value, c.as_slice-pieces.ensures.few) in z)

pub returns : goal.returns
returns c sig rule r d kp kept v e h g w few room = build_ends c.args.plan.now rule _ kp kept v (ready c.args.plan.now sig rule _ kp kept v r d e) h (memory c.args.store.now) few _ _ _ _ _ _ c.loop-i-test.false c.pop.ensures.top (c.loop-i.invariant sig rule r d kp kept v e h g w few room)
