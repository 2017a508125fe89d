-- What may stand for a factor.
use Rattle.std.specs.Prelude.{◌≤◌, Some, None}
use Rattle.sheet_reading.specs.Values.{Value}

-- '-', or a number from 1 to 4
abbrev pub Factor : Value → Type 0
Factor None = Unit {0}
Factor (Some k) = (1 ≤ k) × (k ≤ 4)
