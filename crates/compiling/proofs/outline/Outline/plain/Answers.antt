use Rattle.std.proofs.Common.{rules, ◌≡◌, cond, count_by, is_some, ◌+◌, ◌∙◌}
use Rattle.fixed_vec.specs.FixedVec.{items}
use Rattle.compiled.specs.Symbols.{wanted}
use Rattle.compiling.specs.declared.outline.Part.{Part}
use Rattle.compiling.specs.Outlines.{leaf}
use Rattle.compiling.proofs.Outlines.{plain_outlined}
use Rattle.compiling.proofs.outline.Outline.plain.Goals as goal

pub returns : goal.returns
returns c =
    let o = c.args.self.now in
    let first : c.from.result ≡ cond (is_some (wanted (leaf o.root))) 1 0 = search rules in
    let counted : c.count.result ≡ count_by (λ (p : Part). is_some (wanted (leaf p))) (items o.others) = search rules in
    λ t of. (λ i. first i + counted i) ∙ plain_outlined t o of
