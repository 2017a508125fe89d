use Rattle.orders.proofs.Defaults.{oriented_by}
use Rattle.console.proofs.rule_line.orient.Goals as goal

pub returns-clause-orients : goal.returns-clause-orients
returns-clause-orients c = oriented_by _ _ c.default_order.result _ _ _ c.default_order.ensures c.orientation_of-orientation.ensures
