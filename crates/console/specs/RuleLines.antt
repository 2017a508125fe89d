-- What the program answers to a rule of a sheet.
use Rattle.std.specs.Prelude.{ℕ, List, ◌++◌, codes, decimal}
use Rattle.terms.specs.Rule.{Rule}
use Rattle.orders.specs.declared.order.Orientation.{Orientation}
use Rattle.orders.specs.declared.order.Orientation.TheVariants.{Strict, Weak, Neither}
use Rattle.orders.specs.Linear.{Linear}
use Rattle.orders.specs.Default.{DefaultStrict, DefaultWeak}
use Rattle.orders.specs.Order.{Orients}

abbrev pub orientation_text : Orientation → List ℕ
orientation_text Strict = codes "falls"
orientation_text Weak = codes "holds"
orientation_text Neither = codes "no"

-- the line of a rule
abbrev pub rule_line : ℕ → Orientation → List ℕ
rule_line n o = codes "rule " ++ (decimal n ++ (codes " " ++ orientation_text o))

-- how one interpretation and then another orient the rule of a number
abbrev pub OrientsByDefault : Linear → Linear → List Rule → ℕ → Orientation → Type 0
OrientsByDefault m n = Orients (DefaultStrict m n) (DefaultWeak m n)
