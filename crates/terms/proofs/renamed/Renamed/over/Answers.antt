use Rattle.terms.proofs.Standing.{renamed_stand}
use Rattle.terms.proofs.renamed.Renamed.over.Goals as goal

pub returns-clause-terms : goal.returns-clause-terms
returns-clause-terms g c = renamed_stand (g.V.TermView.answers c.args.inner.now)
