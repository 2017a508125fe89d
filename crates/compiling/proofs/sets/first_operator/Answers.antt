use Rattle.std.proofs.Common.{Some, subst, sym, ap, ◌∙◌}
use Rattle.terms.specs.Rule.{Rule}
use Rattle.compiled.specs.Compiled.{BeginsWith}
use Rattle.compiling.proofs.Rows.{first_begins}
use Rattle.compiling.proofs.Lawful.{low_first}
use Rattle.compiling.proofs.sets.first_operator.Goals as goal

pub returns : goal.returns
returns c =
    let f = c.in-Operator.operator in
    let symbol = sym c.symbol.ensures ∙ c.in-Some-symbol.is ∙ ap Some c.in-Operator.is in
    let begins = subst (BeginsWith f) (c.left-left.ensures ∙ ap (λ (r : Rule). r.left) c.in-Some.ensures.value.1) (first_begins _ _ f _ symbol c.root.ensures.stands) in
    record { begins = begins; low = low_first c.args.sheet.now c.args.rule f c.requires begins }
