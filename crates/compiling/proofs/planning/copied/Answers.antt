use Rattle.std.proofs.Common.{◌<◌, ◌++◌, ◌∷◌, [], length, sym, ap, ◌∙◌, arith}
use Rattle.std.proofs.lemmas.Result.{IfOk-at_ok}
use Rattle.fixed_vec.specs.FixedVec.{items}
use Rattle.compiling.proofs.Copies.{copied_one, copied_none, few_copied}
use Rattle.compiling.proofs.Pushing.{has_room}
use Rattle.compiling.proofs.planning.copied.Goals as goal
use Rattle.compiling.proofs.planning.copied.Goals.{in-Copied, in_default}

pub unwrap-requires : goal.unwrap-requires
unwrap-requires c =
    let few : length (items c.loop-piece.copied) < 32 = omega (arith, ap length c.loop-piece.invariant, few_copied c.args.pieces.now c.loop-piece.piece-index) in
    has_room c.push.result _ _ c.push.ensures.full few

pub loop-piece-preserved : goal.loop-piece-preserved
loop-piece-preserved c =
    let ps = c.args.pieces.now in
    let i = c.loop-piece.piece-index in
    elim c.match-piece.branch [
      | in-Copied w ↦ ap items w.copied-is ∙ IfOk-at_ok (λ _. _) w.unwrap.ensures w.push.ensures.last ∙ ap (λ ks. ks ++ w.in-Copied.number ∷ []) c.loop-piece.invariant ∙ sym (copied_one ps i _ _ c.loop-piece-test.true w.in-Copied.is)
      | in_default w ↦ ap items w.copied-is ∙ c.loop-piece.invariant ∙ sym (copied_none ps i _ c.loop-piece-test.true w.in_default.not-Copied)
    ]
