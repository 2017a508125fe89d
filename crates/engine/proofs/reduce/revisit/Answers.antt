use Rattle.std.proofs.Common.{◌+◌, ◌∷◌, length, cond, reverse, sym, ◌∙◌, ap, subst, arith}
use Rattle.fixed_vec.specs.FixedVec.{items, content}
use Rattle.engine.specs.declared.visits.Visit.TheVariants.{Reached}
use Rattle.engine.specs.Revisits.{is_operator}
use Rattle.engine.proofs.Revisiting.{Revisiting, root_visit, no_root_visit, none_revisited, all_revisited, one_revisited, out_of_range}
use Rattle.engine.proofs.reduce.revisit.Goals as goal
use Rattle.engine.proofs.reduce.revisit.Goals.{then-makes_operator, else-makes_operator, then-number-n, else-number-n}

pub loop-k-init : goal.loop-k-init
loop-k-init c =
    let b = cond (is_operator c.args.plan.now.root.source) (Reached c.args.place ∷ content c.args.todo.now) (content c.args.todo.now) in
    none_revisited c.as_slice-visits.result.now (reverse c.as_slice-places.result.now) b (content c.if-makes_operator.todo)
    (λ room. elim c.if-makes_operator.branch [
      | then-makes_operator w ↦
          ap content w.todo-is
          ∙ root_visit (is_operator c.args.plan.now.root.source) (reverse c.as_slice-places.result.now) c.as_slice-visits.result.now (Reached c.args.place) (content c.args.todo.now) (content w.put.new.todo) w.if-makes_operator.ensures w.put.ensures room
      | else-makes_operator w ↦ no_root_visit (is_operator c.args.plan.now.root.source) (Reached c.args.place) (content c.args.todo.now) (content c.if-makes_operator.todo) w.if-makes_operator.ensures (ap content w.todo-is)
    ])

pub loop-k-preserved : goal.loop-k-preserved
loop-k-preserved c =
    let b = cond (is_operator c.args.plan.now.root.source) (Reached c.args.place ∷ content c.args.todo.now) (content c.args.todo.now) in
    elim c.if-number-n.branch [
      | then-number-n w ↦
          subst (λ v. Revisiting c.as_slice-visits.result.now (reverse c.as_slice-places.result.now) b (c.loop-k.k + 1) (content v)) (sym w.todo-is)
          (one_revisited c.as_slice-visits.result.now c.as_slice-places.result.now b (content c.loop-k.todo) c.loop-k.k c.loop-k-test.true c.loop-k.invariant (content w.put-then-number-n.new.todo) w.put-then-number-n.ensures)
      | else-number-n w ↦ out_of_range c.as_slice-visits.result.now c.as_slice-places.result.now b (content c.loop-k.todo) c.loop-k.k c.loop-k-test.true c.loop-k.invariant (content c.if-number-n.todo) w.if-number-n.false
    ]

pub returns : goal.returns
returns c =
    let b = cond (is_operator c.args.plan.now.root.source) (Reached c.args.place ∷ content c.args.todo.now) (content c.args.todo.now) in
    let i = subst (λ xs. Revisiting xs (reverse c.as_slice-places.result.now) b c.loop-k.k (content c.loop-k.todo)) c.as_slice-visits.ensures.value c.loop-k.invariant in
    let j = subst (λ xs. Revisiting (items c.args.plan.now.visits) (reverse xs) b c.loop-k.k (content c.loop-k.todo)) c.as_slice-places.ensures.value i in
    let e = ap length c.as_slice-visits.ensures.value in
    all_revisited (items c.args.plan.now.visits) (content c.args.made.now) b (content c.loop-k.todo) c.loop-k.k (omega arith) j
