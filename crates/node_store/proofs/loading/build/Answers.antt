use Rattle.std.proofs.Common.{◌≡◌, length, ap, arith}
use Rattle.std.proofs.lemmas.List.{length-reverse}
use Rattle.fixed_vec.specs.FixedVec.{items, content}
use Rattle.node_store.proofs.Building.{build_step, build_last}
use Rattle.node_store.proofs.loading.build.Goals as goal

pub returns-in_default : goal.returns-in_default
returns-in_default g c h qs f t w v room few = build_last _ _ h qs t _ _ _ _ _ (ap length c.in_default.ensures.top) (c.loop-k.invariant h qs f t w v room few)

pub loop-k-preserved : goal.loop-k-preserved
loop-k-preserved g c h qs f t w v room few =
    build_step _ _ h qs t _ c.loop-k._k c.in-Some.place _ _ _ _ _ _ c.in-Some.ensures.top room few (λ q r u us. c.add-head.ensures h q qs r u us) (c.loop-k.invariant h qs f t w v room few)

pub returns : goal.returns
returns g c h qs f t w v room few =
    let b = c.loop-k.invariant h qs f t w v room few in
    let all : length (content c.args.order.now) ≡ length (items c.args.order.now) = length-reverse (items c.args.order.now) in
    build_last _ _ h qs t _ _ _ _ _ (omega (arith, b.sum, c.len-k-end.ensures.value, c.loop-k-test.false)) b
