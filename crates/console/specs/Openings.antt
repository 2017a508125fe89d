-- What the program answers to a sheet.
use Rattle.std.specs.Prelude.{◌≡◌, ℕ, List, ◌++◌, length, codes, decimal, Ok, Err, Result}
use Rattle.reading.specs.declared.fault.SheetFault.{SheetFault}
use Rattle.reading.specs.declared.refusal.Refusal.{Refusal}
use Rattle.reading.specs.Refusals.{sheet_refusal, refusal_text}
use Rattle.sheet_reading.specs.Sheet.{Sheet}
use Rattle.sheet.specs.declared.Sheet.{Sheet as Stored}
use Rattle.weighing.specs.declared.Weighing.{Weighing}
use Rattle.sheet_reader.specs.Reading.{HoldsSheet, LeftEmpty}
use Rattle.console.specs.declared.opening.SheetLine.{SheetLine}

-- the line of a sheet of so many rules
abbrev pub sheet_line : ℕ → List ℕ
sheet_line n = codes "read " ++ decimal n

-- an answer as it is printed
abbrev pub opened_text : Result SheetLine Refusal → List ℕ
opened_text (Ok l) = sheet_line l.rules
opened_text (Err r) = refusal_text r

-- the answer to a text that is read so: the number of its rules, or the refusal
abbrev pub opening_text : Result Sheet SheetFault → List ℕ
opening_text (Ok s) = sheet_line (length s.rules)
opening_text (Err f) = refusal_text (sheet_refusal f)

-- the sheet that the definition gives; or the refusal of its fault, and nothing is left
abbrev pub Opens : Result SheetLine Refusal → Result Sheet SheetFault → Stored → Weighing → Weighing → Type 0
Opens (Ok l) o sheet first second = (s : Sheet) × (o ≡ Ok s) × HoldsSheet s sheet first second × (l.rules ≡ length s.rules)
Opens (Err r) o sheet first second = (f : SheetFault) × (o ≡ Err f) × LeftEmpty sheet first second × (r ≡ sheet_refusal f)
