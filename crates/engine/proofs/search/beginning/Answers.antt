use Rattle.engine.proofs.Candidates.{begins_operator, begins_other, begins_none}
use Rattle.engine.proofs.search.beginning.Goals as goal

pub returns-in_default : goal.returns-in_default
returns-in_default c = begins_none c.args.rules.now c.args.symbol c.none.result c.in_default.is c.none.ensures

pub returns-in-Operator : goal.returns-in-Operator
returns-in-Operator c = begins_operator c.args.rules.now c.args.symbol c.in-Some.front c.in-Operator.operator c.beginning.result c.in-Some.is c.in-Operator.is c.beginning.ensures

pub returns-in-Variable : goal.returns-in-Variable
returns-in-Variable c = begins_other c.args.rules.now c.args.symbol c.in-Some.front c.none-in-Variable.result c.in-Some.is c.in-Variable.is c.none-in-Variable.ensures
