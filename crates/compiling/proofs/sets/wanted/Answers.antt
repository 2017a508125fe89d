use Rattle.std.proofs.Common.{subst, sym, ap, ◌∙◌}
use Rattle.terms.specs.Rule.{Rule}
use Rattle.terms.specs.View.{Stands}
use Rattle.sheet.specs.Sides.{side_answers}
use Rattle.compiling.specs.Noting.{allows}
use Rattle.compiling.proofs.Wanting.{nodes_end, found_under}
use Rattle.compiling.proofs.sets.wanted.Goals as goal

pub returns : goal.returns
returns c = λ o.
    let left = c.left-left.result.now in
    let same = c.left-left.ensures ∙ ap (λ (r : Rule). r.left) c.in-Some.ensures.value.1 in
    ap (λ s. allows s o) c.symbol.ensures ∙ found_under (side_answers left) c.root.result (nodes_end _ c.root.result) o _ c.args.n _ (subst (Stands (side_answers left) c.root.result) same c.root.ensures.stands) (sym c.in-Some-argument.ensures.place)
