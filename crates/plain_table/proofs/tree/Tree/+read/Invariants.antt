use Rattle.plain_table.proofs.tree.Tree.+read.Given as goal

abbrev pub decreases-read : goal.decreases-read
decreases-read g l = l.levels
