use Rattle.std.proofs.Common.{length, map, ap, ◌∙◌, arith}
use Rattle.std.proofs.lemmas.List.{take_all}
use Rattle.fixed_vec.specs.FixedVec.{items}
use Rattle.compiling.proofs.Checks.{check_for, checks_outlined}
use Rattle.compiling.proofs.planning.checks_of.Goals as goal

pub returns : goal.returns
returns c = λ t of.
    let parts = items c.args.left.now.others in
    c.loop-part.invariant ∙ ap (map check_for) (take_all c.loop-part.part-index parts (omega (arith, ap length c.deref-part-items.ensures.0)) ∙ of.others) ∙ checks_outlined t
