use Rattle.std.proofs.Common.{◌+◌, ◌-◌, ◌*◌}
use Rattle.compiling.proofs.outline.Outline.+add.Given as goal

abbrev pub decreases-add_arguments : goal.decreases-add_arguments
decreases-add_arguments l = 5 * l.levels + (4 - l.n)

abbrev pub decreases-add_term : goal.decreases-add_term
decreases-add_term l = 5 * l.levels
