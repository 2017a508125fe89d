use Rattle.std.proofs.Common.{sym, refl, subst, arith}
use Rattle.fixed_vec.specs.FixedVec.{items}
use Rattle.terms.specs.Signature.{Declared}
use Rattle.terms.proofs.Signatures.{declared_again}
use Rattle.signature.specs.Declaring.{sig_of}
use Rattle.signature.proofs.Operators.{set_again}
use Rattle.signature.proofs.Signature.rank.Goals as goal

pub invariant_of-self-clause-declared : goal.invariant_of-self-clause-declared
invariant_of-self-clause-declared c =
    let s = c.args.self.now in
    let (within, is, few) = c.in-Some.ensures in
    let e = set_again (items s.operators) (items c.set.new.self) c.args.operator c.args.arity c.in-Some.declared.now _ c.set.ensures is refl in
    subst Declared (sym e) (declared_again (sig_of s) c.args.operator c.args.arity within (omega arith) s.declared)
