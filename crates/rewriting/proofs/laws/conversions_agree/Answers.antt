use Rattle.rewriting.proofs.Converging.{conversions_agree}
use Rattle.rewriting.proofs.laws.conversions_agree.Goals as goal

pub returns : goal.returns
returns c = conversions_agree
