use Rattle.std.proofs.Common.{sym, ◌∙◌}
use Rattle.reading.specs.declared.fault.TextFault.TheVariants.{PastLimit}
use Rattle.reading.specs.declared.fault.SheetFault.TheVariants.{Text}
use Rattle.reading.specs.Tokens.{origin}
use Rattle.console.proofs.Openings.{overlong_read}
use Rattle.console.proofs.opening.open.Goals as goal

pub returns-in_default-clause-holds : goal.returns-in_default-clause-holds
returns-in_default-clause-holds c = λ b e. (
  Text (PastLimit origin),
  overlong_read b (sym e ∙ c.in_default.ensures),
  record { bare = c.clear.ensures; values = c.clear-in_default.ensures; further_values = c.clear-in_default-2.ensures },
  c.too_long.ensures,
)
