use Rattle.std.proofs.Common.{◌∙◌, sym, ap, ◌+◌}
use Rattle.terms.specs.declared.node.Node.{Node}
use Rattle.matching.proofs.Sizings.{size_read}
use Rattle.matching.proofs.room.size.Goals as goal

pub returns : goal.returns
returns c n (q, h, e, few, k) = ap (λ l. l + 1) c.len.ensures.value ∙ size_read _ n q (c.survey.ensures q h (e ∙ ap (λ (x : Node). x.first) (sym c.node.ensures)) few).0 k
