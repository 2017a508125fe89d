use Rattle.std.proofs.Common.{◌≡◌, ◌<◌, ◌+◌, false, ◌++◌, ◌∷◌, [], length, sym, ap, ◌∙◌, arith}
use Rattle.std.proofs.lemmas.List.{length_push}
use Rattle.std.proofs.lemmas.Result.{IfOk-at_ok}
use Rattle.fixed_vec.specs.FixedVec.{items}
use Rattle.compiled.specs.Symbols.{parts_under, has_variable}
use Rattle.compiling.proofs.Drops.{so_far, seen, one_dropped, one_kept, one_plain, few_so_far, all_dropped}
use Rattle.compiling.proofs.Pushing.{has_room}
use Rattle.compiling.proofs.planning.dropped.Goals as goal
use Rattle.compiling.proofs.planning.dropped.Goals.{in-Variable+then-not-has_variable, in-Variable+else-not-has_variable, in_default}

pub unwrap-requires : goal.unwrap-requires
unwrap-requires c =
    let (r, of, linear) = c.requires in
    let i = c.loop-number.number in
    let us = r.right ∷ parts_under r.right in
    let absent : has_variable c.in-Variable.x us ≡ false = sym (seen r _ _ of _ _ c.len.ensures.value) ∙ sym (c.has_variable.ensures r.right of.right_is) ∙ c.if-not-has_variable.true in
    let one = one_dropped us _ _ c.deref-part-items.ensures.0 i _ c.loop-number-test.true _ c.in-Variable.is absent in
    let few : length (items c.loop-number.dropped) < 8 = omega (arith, ap length (c.loop-number.invariant r of), ap length one, length_push (so_far us (items c.args.left.now.others) i) i, few_so_far r _ _ of linear (i + 1)) in
    has_room c.push.result _ _ c.push.ensures.full few

pub loop-number-preserved : goal.loop-number-preserved
loop-number-preserved c = λ r of.
    let i = c.loop-number.number in
    let us = r.right ∷ parts_under r.right in
    let before = c.loop-number.invariant r of in
    let same = c.deref-part-items.ensures.0 in
    let within = c.loop-number-test.true in
    elim c.match-part.branch [
      | in-Variable+then-not-has_variable w ↦
          ap items w.dropped-is
          ∙ IfOk-at_ok (λ _. _) w.unwrap.ensures w.push.ensures.last
          ∙ ap (λ ks. ks ++ i ∷ []) before
          ∙ sym (one_dropped us _ _ same i _ within _ w.in-Variable.is (sym (seen r _ _ of _ _ w.len.ensures.value) ∙ sym (w.has_variable.ensures r.right of.right_is) ∙ w.if-not-has_variable.true))
      | in-Variable+else-not-has_variable w ↦
          ap items w.dropped-is
          ∙ before
          ∙ sym (one_kept us _ _ same i _ within _ w.in-Variable.is (sym (seen r _ _ of _ _ w.len.ensures.value) ∙ sym (w.has_variable.ensures r.right of.right_is) ∙ w.if-not-has_variable.false))
      | in_default w ↦ ap items w.dropped-is ∙ before ∙ sym (one_plain us _ _ same i _ within w.in_default.not-Variable)
    ]

pub returns : goal.returns
returns c = λ r of. c.loop-number.invariant r of ∙ all_dropped r _ _ of c.loop-number.number (omega (arith, c.loop-number-test.false, ap length c.deref-part-items.ensures.0))
