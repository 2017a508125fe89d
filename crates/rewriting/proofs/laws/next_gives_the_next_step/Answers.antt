use Rattle.rewriting.proofs.Nexts.{next_is_next_step, one_next_step, no_next_step}
use Rattle.rewriting.proofs.laws.next_gives_the_next_step.Goals as goal

pub returns-clause-gives : goal.returns-clause-gives
returns-clause-gives c = next_is_next_step

pub returns-clause-one : goal.returns-clause-one
returns-clause-one c = one_next_step

pub returns-clause-none : goal.returns-clause-none
returns-clause-none c = no_next_step
