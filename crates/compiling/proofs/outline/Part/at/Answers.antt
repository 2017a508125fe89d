use Rattle.std.proofs.Common.{sym, ◌∙◌}
use Rattle.compiling.proofs.Rows.{no_symbol}
use Rattle.compiling.proofs.outline.Part.at.Goals as goal

pub unreachable-requires : goal.unreachable-requires
unreachable-requires c = no_symbol _ _ c.requires (sym c.symbol.ensures ∙ c.in_default.is)
