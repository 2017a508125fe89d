use Rattle.std.proofs.Common.{[], ◌∷◌, ◌++◌, is_some, refl, sym, ap, ◌∙◌, arith}
use Rattle.fixed_vec.specs.FixedVec.{items}
use Rattle.std.proofs.lemmas.Result.{IfOk-at_ok}
use Rattle.compiling.proofs.Pushing.{has_room}
use Rattle.compiling.proofs.Walking.{its_arguments, operator_fits, leaf_added, operator_added, its_first, its_others, row_added, none_added}
use Rattle.compiling.proofs.outline.Outline.+add.Goals as goal

pub add_arguments-returns-in_default : goal.add_arguments-returns-in_default
add_arguments-returns-in_default t c = none_added _ _ _ c.args.self.now (sym c.in_default.ensures.place)

pub add_arguments-add_term-requires : goal.add_arguments-add_term-requires
add_arguments-add_term-requires t c = (omega (arith, c.decreases), its_first _ _ c.requires (sym c.in-Some.ensures.place))

pub add_arguments-add_arguments-requires : goal.add_arguments-add_arguments-requires
add_arguments-add_arguments-requires t c = (omega (arith, c.decreases, c.requires.third), its_others _ _ c.requires (sym c.in-Some.ensures.place) _ _ c.add_term.ensures c.in-Some.ensures.few)

pub add_arguments-returns : goal.add_arguments-returns
add_arguments-returns t c = row_added _ _ c.requires (sym c.in-Some.ensures.place) _ (c.is_some-has_next.ensures ∙ ap is_some c.argument-2.ensures.place) _ _ c.add_term.ensures c.add_arguments.ensures

pub add_term-add_arguments-requires : goal.add_term-add_arguments-requires
add_term-add_arguments-requires t c =
    let (some, row) = its_arguments _ _ c.args.has_next c.args.self.now _ c.at-part.result refl (IfOk-at_ok (λ _. _) c.unwrap.ensures c.push.ensures.last) refl c.requires in
    (omega (arith, c.decreases, some), row)

pub add_term-unwrap-requires-in-Operator : goal.add_term-unwrap-requires-in-Operator
add_term-unwrap-requires-in-Operator t c =
    let p = c.push-in-Operator in
    has_room p.result _ _ p.ensures.full (operator_fits _ _ c.args.has_next c.args.self.now _ c.at-part.result refl (IfOk-at_ok (λ _. _) c.unwrap.ensures c.push.ensures.last) refl c.at-part.ensures _ c.add_arguments.ensures c.requires _ c.in-Operator.is)

pub add_term-returns-in-Operator : goal.add_term-returns-in-Operator
add_term-returns-in-Operator t c =
    let pushed = IfOk-at_ok (λ _. _) c.unwrap-in-Operator.ensures c.push-in-Operator.ensures.last in
    operator_added _ _ c.args.has_next c.args.self.now _ c.at-part.result refl (IfOk-at_ok (λ _. _) c.unwrap.ensures c.push.ensures.last) refl c.at-part.ensures _ c.add_arguments.ensures _ c.in-Operator.is _ refl refl (pushed ∙ ap (λ k. items c.add_arguments.new.self.operators ++ k ∷ []) c.len-number.ensures.value)

pub add_term-returns-in_default : goal.add_term-returns-in_default
add_term-returns-in_default t c = leaf_added _ _ c.args.has_next c.args.self.now _ c.at-part.result refl (IfOk-at_ok (λ _. _) c.unwrap.ensures c.push.ensures.last) refl c.at-part.ensures _ c.add_arguments.ensures c.in_default.not-Operator
