-- What holds of interpretations.
use Rattle.std.specs.Prelude.{◌≡◌, ℕ, ◌+◌, ◌<◌}
use Rattle.weighing.specs.declared.Weighing.{Weighing}
use Rattle.weighing.specs.Weighing.{value_at}
use Rattle.sheet_reading.specs.Values.{Grid, cell}
use Rattle.orders.specs.Linear.{linear_of, linear_in}

-- a weighing that has the values of four lines of a sheet gives the interpretation that those lines give
abbrev pub LinesInterpret : Type 0
LinesInterpret = (w : Weighing) (grid : Grid) (from : ℕ) → ((line f : ℕ) → line < 4 → value_at w line f ≡ cell grid (from + line) f) → linear_of w ≡ linear_in grid from
