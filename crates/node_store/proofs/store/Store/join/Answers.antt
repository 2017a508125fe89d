use Rattle.std.proofs.Common.{◌∷◌, arith}
use Rattle.node_store.proofs.Turning.{reuse_joins, joined_none, open_joins}
use Rattle.node_store.proofs.store.Store.join.Goals as goal

pub returns-in-Some : goal.returns-in-Some
returns-in-Some c h a b qs g w p q few = reuse_joins _ h a b qs _ _ c.in-Some.place c.args.symbol _ _ c.reuse.ensures c.in-Some.is p q (c.settle.ensures h (a ∷ b ∷ qs) g w)

pub returns-in_err-place : goal.returns-in_err-place
returns-in_err-place c h a b qs g w p q few =
    let t = c.settle.ensures h (a ∷ b ∷ qs) g w in
    rw c.from_residual.ensures (joined_none _ h a b qs _ c.in_default.is (omega (arith, t.long, c.in_err-place.ensures)) t)

pub returns : goal.returns
returns c h a b qs g w p q few = open_joins _ h a b qs _ _ c.in_ok-place.place c.args.symbol _ _ c.open.ensures c.in_default.is c.in_ok-place.ensures p q (c.settle.ensures h (a ∷ b ∷ qs) g w)
