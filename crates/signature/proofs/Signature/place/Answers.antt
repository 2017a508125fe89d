use Rattle.std.proofs.Common.{◌∙◌, rules, tests}
use Rattle.std.proofs.lemmas.Iterator.{YieldsList-from_slice}
use Rattle.std.proofs.lemmas.Iterator.Search.{position_from_yields_List}
use Rattle.fixed_vec.specs.FixedVec.{items}
use Rattle.signature.proofs.Operators.{named, position_found}
use Rattle.signature.proofs.Signature.place.Goals as goal

pub returns-clause-value : goal.returns-clause-value
returns-clause-value c =
    let os = items c.args.self.now.operators in
    position_from_yields_List (named c.args.name.now) _ _ c.position.result c.position.ensures.ran (YieldsList-from_slice os cc) (λ x b q k. search (rules, tests)) ∙ position_found os c.args.name.now
