use Rattle.std.proofs.Common.{suc, ◌*◌}
use Rattle.sheet_reader.proofs.side.SideReader.+terms.Given as goal

abbrev pub decreases-arguments : goal.decreases-arguments
decreases-arguments l = suc (suc (3 * l.room.symbols))

abbrev pub decreases-operator : goal.decreases-operator
decreases-operator l = 3 * l.room.symbols

abbrev pub decreases-term : goal.decreases-term
decreases-term l = suc (3 * l.room.symbols)
