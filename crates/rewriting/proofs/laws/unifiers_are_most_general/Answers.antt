use Rattle.rewriting.proofs.UnifierCommon.{unifier_is_common}
use Rattle.rewriting.proofs.Overlapping.{unifier_unifies, unifier_most_general}
use Rattle.rewriting.proofs.laws.unifiers_are_most_general.Goals as goal

pub returns-clause-common : goal.returns-clause-common
returns-clause-common c = unifier_is_common

pub returns-clause-unifies : goal.returns-clause-unifies
returns-clause-unifies c = unifier_unifies

pub returns-clause-general : goal.returns-clause-general
returns-clause-general c = unifier_most_general
