use Rattle.std.proofs.Common.{subst, arith}
use Rattle.traversal.specs.Rows.{Many}
use Rattle.traversal.proofs.Visits.{no_room}
use Rattle.traversal.proofs.compare.next_symbol.Goals as goal

pub unreachable-requires-in_default-push_arguments : goal.unreachable-requires-in_default-push_arguments
unreachable-requires-in_default-push_arguments g c =
    let left = subst (λ l. Many (g.V.TermView.answers c.args.view.now) l c.requires.0) c.in-Some.ensures.top c.requires.1 in
    omega (arith, c.requires.3, no_room _ _ _ c.push_arguments.ensures.few c.in_default-push_arguments.ensures.row _ left)
