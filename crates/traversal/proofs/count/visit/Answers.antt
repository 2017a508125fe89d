use Rattle.std.proofs.Common.{Some, sym, ap, ◌∙◌, arith}
use Rattle.traversal.proofs.Visits.{visited_operator, visited_bare, visited_arguments, visited_none, no_symbol}
use Rattle.traversal.proofs.count.visit.Goals as goal

pub returns-in_err-symbol : goal.returns-in_err-symbol
returns-in_err-symbol g c =
    rw c.from_residual.ensures (visited_none _ c.args.place _ (no_symbol _ c.args.place (sym c.in_err-symbol.ensures)))

pub returns-in-Some : goal.returns-in-Some
returns-in-Some g c = visited_arguments _ c.args.place _ c.in_ok-symbol.field-0 _ (sym c.in_ok-symbol.ensures) c.in-Variable.is (sym c.in-Some.ensures.place)

pub returns-in-None : goal.returns-in-None
returns-in-None g c =
    visited_bare _ c.args.place c.in_ok-symbol.field-0 _ (sym c.in_ok-symbol.ensures) c.in-Variable.is (c.argument.ensures.few 3 (omega arith)) (sym c.in-None.ensures.place)

pub returns-in-Operator : goal.returns-in-Operator
returns-in-Operator g c =
    rw c.ok.ensures.value
    (visited_operator c.push_arguments.result _ c.args.place c.in-Operator.field-0 _ _ (sym c.in_ok-symbol.ensures ∙ ap Some c.in-Operator.is) c.push_arguments.ensures.few c.push_arguments.ensures.row)
