use Rattle.std.proofs.Common.{rules, tests, ◌≡◌, ◌-◌, take, ap, ◌∙◌}
use Rattle.std.specs.List.{list_any}
use Rattle.fixed_vec.specs.FixedVec.{items}
use Rattle.compiled.specs.Symbols.{is_variable}
use Rattle.compiling.specs.declared.outline.Part.{Part}
use Rattle.std.proofs.lemmas.Iterator.{YieldsList-from_slice}
use Rattle.std.proofs.lemmas.Iterator.Search.{any_from_yields_List}
use Rattle.compiling.specs.Outlines.{leaf}
use Rattle.compiling.proofs.Outlines.{any_behind, has_outlined}
use Rattle.compiling.proofs.outline.Outline.has_variable.Goals as goal

pub returns-else-is_variable : goal.returns-else-is_variable
returns-else-is_variable c =
    let o = c.args.self.now in
    let x = c.args.x in
    let test = λ (p : Part). is_variable x (leaf p) in
    let passed : c.iter.result.rest.now ≡ take (c.args.n - 1) (items o.others) = search rules in
    let found = any_from_yields_List test _ _ c.any.result c.any.ensures.ran (YieldsList-from_slice (c.iter.result.rest.now) cc) (λ q b f k. search (rules, tests)) in
    λ t of. found ∙ ap (list_any test) passed ∙ any_behind test o.root (items o.others) c.args.n c.if-n-gt0.true (search rules) ∙ has_outlined t o of x c.args.n
