use Rattle.rewriting.proofs.Listing.{positions_are_listed}
use Rattle.rewriting.proofs.laws.positions_are_listed.Goals as goal

pub returns : goal.returns
returns c = positions_are_listed
