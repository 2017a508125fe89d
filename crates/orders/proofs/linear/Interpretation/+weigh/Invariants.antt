use Rattle.std.proofs.Common.{◌+◌, ◌-◌, ◌*◌}
use Rattle.orders.proofs.linear.Interpretation.+weigh.Given as goal

abbrev pub decreases-weigh_arguments : goal.decreases-weigh_arguments
decreases-weigh_arguments l = 5 * l.levels + (4 - l.n)

abbrev pub decreases-weigh_term : goal.decreases-weigh_term
decreases-weigh_term l = 5 * l.levels
