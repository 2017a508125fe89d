use Rattle.rewriting.proofs.Converging.{runs_add, runs_reduce}
use Rattle.rewriting.proofs.laws.runs_reduce.Goals as goal

pub returns-clause-add : goal.returns-clause-add
returns-clause-add c = runs_add

pub returns-clause-reduce : goal.returns-clause-reduce
returns-clause-reduce c = runs_reduce
