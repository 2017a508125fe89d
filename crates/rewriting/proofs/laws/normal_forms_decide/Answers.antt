use Rattle.rewriting.proofs.Converging.{forms_decide, equal_runs_convert}
use Rattle.rewriting.proofs.laws.normal_forms_decide.Goals as goal

pub returns-clause-decide : goal.returns-clause-decide
returns-clause-decide c = forms_decide

pub returns-clause-meet : goal.returns-clause-meet
returns-clause-meet c = equal_runs_convert
