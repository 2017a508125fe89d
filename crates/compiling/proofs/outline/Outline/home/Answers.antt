use Rattle.std.proofs.Common.{rules, tests, ◌≡◌, position, unwrap_or, ◌∙◌}
use Rattle.std.proofs.lemmas.Iterator.{YieldsList-from_slice}
use Rattle.std.proofs.lemmas.Iterator.Search.{position_from_yields_List}
use Rattle.fixed_vec.specs.FixedVec.{items}
use Rattle.compiled.specs.Symbols.{is_variable}
use Rattle.compiling.specs.declared.outline.Part.{Part}
use Rattle.compiling.specs.Outlines.{leaf}
use Rattle.compiling.proofs.Outlines.{found_or_len, home_outlined}
use Rattle.compiling.proofs.outline.Outline.home.Goals as goal

pub returns : goal.returns
returns c =
    let o = c.args.self.now in
    let x = c.args.x in
    let test = λ (p : Part). is_variable x (leaf p) in
    let found : c.position.result ≡ position test (items o.others) =
    position_from_yields_List test _ _ c.position.result c.position.ensures.ran (YieldsList-from_slice (items o.others) cc) (λ q b f k. search (rules, tests)) in
    λ t of. c.unwrap_or.ensures ∙ (λ i. unwrap_or (found i) (c.len.ensures.value i)) ∙ found_or_len test (items o.others) ∙ home_outlined t o of x
