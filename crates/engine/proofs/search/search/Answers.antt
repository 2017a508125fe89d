use Rattle.std.proofs.Common.{◌+◌, ◌∷◌, None, sym, ◌∙◌, ap, subst, arith}
use Rattle.fixed_vec.specs.FixedVec.{items, content}
use Rattle.node_store.specs.Memory.{memory}
use Rattle.engine.specs.declared.visits.Visit.{Visit}
use Rattle.engine.specs.Searching.{Searches}
use Rattle.engine.proofs.Looks.{Going, going_look, going_past, too_many, all_visited, found}
use Rattle.engine.proofs.search.search.Goals as goal
use Rattle.engine.proofs.search.search.Goals.{in-Fresh, in-Reached+in_default}

pub returns-in_err-place : goal.returns-in_err-place
returns-in_err-place c =
    subst (Searches (memory c.args.store.now) c.args.rules.now (content c.args.todo.now) (items c.loop-n.places) (content c.pop.new.self)) (sym c.from_residual.ensures)
    (all_visited (memory c.args.store.now) c.args.rules.now (content c.args.todo.now) c.loop-n._n (items c.loop-n.places) (content c.loop-n.todo) (content c.pop.new.self) c.in_err-place.ensures.top c.loop-n.invariant)

pub returns-in-Some : goal.returns-in-Some
returns-in-Some c =
    let e = c.in_ok-place.ensures.top ∙ ap (λ (v : Visit). v ∷ content c.pop.new.self) c.in-Reached.is in
    found (memory c.args.store.now) c.args.rules.now (content c.args.todo.now) c.loop-n._n c.in-Reached.place c.in-Some.rule (items c.find.new.places) (content c.pop.new.self)
    (subst (Going (memory c.args.store.now) c.args.rules.now (content c.args.todo.now) c.loop-n._n) e c.loop-n.invariant) c.in-Some.ensures

pub loop-n-preserved : goal.loop-n-preserved
loop-n-preserved c =
    let m = memory c.args.store.now in
    let r = c.args.rules.now in
    let start = content c.args.todo.now in
    let more = c.loop-n._n + 1 in
    elim c.match-branch-2.branch [
      | in-Fresh w ↦
          let e = c.in_ok-place.ensures.top ∙ ap (λ (v : Visit). v ∷ content c.pop.new.self) w.in-Fresh.is in
          subst (λ v. Going m r start more (content v)) (sym w.todo-is)
          (going_look m r start c.loop-n._n w.in-Fresh.place (content c.pop.new.self) (content w.look_along.new.todo) None (subst (Going m r start c.loop-n._n) e c.loop-n.invariant) w.look_along.ensures)
      | in-Reached+in_default w ↦
          let e = c.in_ok-place.ensures.top ∙ ap (λ (v : Visit). v ∷ content c.pop.new.self) w.in-Reached.is in
          subst (λ v. Going m r start more (content v)) (sym w.todo-is)
          (going_past m r start c.loop-n._n w.in-Reached.place (items w.find.new.places) (content c.pop.new.self) (subst (Going m r start c.loop-n._n) e c.loop-n.invariant) w.in_default.ensures)
    ]

pub returns : goal.returns
returns c = too_many (memory c.args.store.now) c.args.rules.now (content c.args.todo.now) c.loop-n._n (items c.loop-n.places) (content c.loop-n.todo) (omega arith) c.loop-n.invariant
