use Rattle.std.proofs.Common.{◌≡◌, ℕ, false, Some, None, Option, sym, refl, ◌∙◌, arith}
use Rattle.std.proofs.lemmas.Bool.Decides.{nat_tests}
use Rattle.std.specs.Option.{is_some}
use Rattle.std.proofs.lemmas.Bool.{false≢true}
use Rattle.fixed_vec.specs.FixedVec.{items}
use Rattle.signature.proofs.Operators.{declared_more}
use Rattle.signature.proofs.Signature.declare.Goals as goal

nothing : (r : Option ℕ) → false ≡ is_some r → r ≡ None
nothing None e = refl
nothing (Some f) e = absurd (false≢true e)

pub invariant_of-self-clause-declared : goal.invariant_of-self-clause-declared
invariant_of-self-clause-declared c =
    let s = c.args.self.now in
    let unfound = sym c.find.ensures ∙ nothing c.find.result c.if-is_some.ensures in
    declared_more c.push.result (items s.operators) (items c.push.new.self) c.named.result c.args.name.now c.push.ensures.last c.push.ensures.full (grind (arith, nat_tests)) c.named.ensures (sym c.if-not-is_name.ensures) unfound s.declared
