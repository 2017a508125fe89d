use Rattle.std.proofs.Common.{ℕ, ap, ◌∙◌}
use Rattle.sheet.specs.Sides.{side_of}
use Rattle.orders.specs.Interpretation.{meaning}
use Rattle.orders.specs.Linear.{Linear}
use Rattle.symbol_order.proofs.Occurrences.{coefficient_plain, missing_plain}
use Rattle.symbol_order.proofs.counting.count_side.Goals as goal

pub returns : goal.returns
returns c =
    let plain = λ (f k : ℕ). ap (λ (m : Linear). m.factor f k) c.of-plain.ensures ∙ missing_plain c.missing.result c.missing.ensures f k in
    record {
      all = c.len.ensures.value;
      variables = λ x l. c.weigh.ensures.coefficients x l ∙ coefficient_plain (meaning c.of-plain.result) plain x (side_of c.args.side.now);
    }
