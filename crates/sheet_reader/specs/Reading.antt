-- What reading a sheet answers and leaves.
use Rattle.std.specs.Prelude.{◌≡◌, false, [], Ok, Err, Result}
use Rattle.reading.specs.declared.fault.SheetFault.{SheetFault}
use Rattle.sheet_reading.specs.Sheet.{Sheet}
use Rattle.sheet.specs.declared.Sheet.{Sheet as Stored}
use Rattle.sheet.specs.Sheet.{operators_of, rules_of, is_admitted, Bare}
use Rattle.weighing.specs.declared.Weighing.{Weighing}
use Rattle.weighing.specs.Weighing.{Missing}
use Rattle.sheet_reader.specs.Weighings.{Weighs}

-- the operators and rules of a sheet, not admitted, and the values of its two weighings; a second one that it does not have is as if missing
pub record HoldsSheet (s : Sheet) (sheet : Stored) (first second : Weighing) : Type 0 where
  pub operators : operators_of sheet ≡ s.operators
  pub rules : rules_of sheet ≡ s.rules
  pub unjudged : is_admitted sheet ≡ false
  pub values : Weighs first s.values 0
  pub further_values : Weighs second s.values 4

-- no operators, no rules, not admitted, and both weighings as if missing
pub record LeftEmpty (sheet : Stored) (first second : Weighing) : Type 0 where
  pub bare : Bare [] sheet
  pub values : Missing first
  pub further_values : Missing second

-- the sheet that the definition gives; or the fault that it gives, and nothing is left
abbrev pub ReadsSheet : Result (Unit {0}) SheetFault → Result Sheet SheetFault → Stored → Weighing → Weighing → Type 0
ReadsSheet (Ok done) o sheet first second = (s : Sheet) × (o ≡ Ok s) × HoldsSheet s sheet first second
ReadsSheet (Err f) o sheet first second = (o ≡ Err f) × LeftEmpty sheet first second

-- the same while the text is read: what a refused one leaves is not said
abbrev pub FillsSheet : Result (Unit {0}) SheetFault → Result Sheet SheetFault → Stored → Weighing → Weighing → Type 0
FillsSheet (Ok done) o sheet first second = (s : Sheet) × (o ≡ Ok s) × HoldsSheet s sheet first second
FillsSheet (Err f) o sheet first second = o ≡ Err f
