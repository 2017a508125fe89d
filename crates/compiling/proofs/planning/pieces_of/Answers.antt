use Rattle.std.proofs.Common.{◌+◌, length, ap, ◌∙◌, arith}
use Rattle.std.proofs.lemmas.List.{length_push}
use Rattle.std.proofs.lemmas.Result.{IfOk-at_ok}
use Rattle.compiling.proofs.Pieces.{pieces_more, pieces_whole}
use Rattle.compiling.proofs.planning.pieces_of.Goals as goal

pub loop-number-preserved : goal.loop-number-preserved
loop-number-preserved c =
    let pushed = IfOk-at_ok (λ _. _) c.unwrap.ensures c.push.ensures.last in
    record {
      many = ap length pushed ∙ length_push _ _ ∙ ap (λ n. n + 1) c.loop-number.invariant.many;
      made = λ r of. pieces_more r _ _ of c.loop-number.number _ c.deref-part-items.result.now c.deref-part-items.ensures.0 c.loop-number-test.true _ _ c.piece_of.result (c.loop-number.invariant.made r of) pushed (c.piece_of.ensures r of);
    }

pub returns : goal.returns
returns c = λ r of. c.loop-number.invariant.made r of ∙ pieces_whole r _ _ of c.loop-number.number (omega (arith, c.loop-number-test.false, ap length c.deref-part-items.ensures.0))
