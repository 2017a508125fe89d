-- The default order of a sheet: the interpretation of its first weighing, then that of its second.
use Rattle.std.specs.Prelude.{◌≡◌}
use Rattle.terms.specs.Rule.{Rule}
use Rattle.orders.specs.declared.lexicographic.Lexicographic.{Lexicographic}
use Rattle.orders.specs.declared.linear.Interpretation.{Interpretation}
use Rattle.orders.specs.Interpretation.{meaning}
use Rattle.orders.specs.Linear.{Linear, StrictlyOriented, WeaklyOriented}
use Rattle.orders.specs.Lexicographic.{ThenOf}

abbrev pub DefaultStrict : Linear → Linear → Rule → Type 0
DefaultStrict m n = ThenOf (StrictlyOriented m) (WeaklyOriented m) (StrictlyOriented n)

abbrev pub DefaultWeak : Linear → Linear → Rule → Type 0
DefaultWeak m n = ThenOf (StrictlyOriented m) (WeaklyOriented m) (WeaklyOriented n)

-- an order is made of these two interpretations
pub record IsDefault (m n : Linear) (o : Lexicographic Interpretation Interpretation) : Type 0 where
  pub first : meaning o.first ≡ m
  pub second : meaning o.second ≡ n
