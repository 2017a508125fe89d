use Rattle.plain_table.proofs.generating.Generator.+put_term.Given as goal

abbrev pub decreases-put_term : goal.decreases-put_term
decreases-put_term l = l.levels
