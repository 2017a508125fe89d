-- The four parts of every fault: number, layer, place, second place.
use Rattle.reading.specs.declared.token.At.{At}
use Rattle.reading.specs.declared.fault.TextFault.{TextFault}
use Rattle.reading.specs.declared.fault.TextFault.TheVariants.{Stray, BadNumber, Unexpected, Undeclared, WrongArity, PastLimit}
use Rattle.reading.specs.declared.fault.SheetFault.{SheetFault}
use Rattle.reading.specs.declared.fault.SheetFault.TheVariants.{Text as InText, Repeated, Headless, Doubled, Unbound}
use Rattle.reading.specs.declared.refusal.Layer.{Layer}
use Rattle.reading.specs.declared.refusal.Layer.TheVariants.{Text, Sheet, Pool, Book}
use Rattle.reading.specs.declared.refusal.Refusal.{Refusal}
use Rattle.std.specs.Prelude.{ℕ, List, ◌++◌, codes, decimal}

-- the place is the byte's, the second place is the line
abbrev pub placed : ℕ → Layer → At → Refusal
placed n layer at = record { number = n; layer = layer; place = at.place; second = at.line }

abbrev pub text_refusal : TextFault → Refusal
text_refusal (Stray at) = placed 1 Text at
text_refusal (BadNumber at) = placed 2 Text at
text_refusal (Unexpected at) = placed 3 Text at
text_refusal (Undeclared at) = placed 4 Text at
text_refusal (WrongArity at) = placed 5 Text at
text_refusal (PastLimit at) = placed 6 Text at

-- a fault of the text is passed on unaltered
abbrev pub sheet_refusal : SheetFault → Refusal
sheet_refusal (InText f) = text_refusal f
sheet_refusal (Repeated at) = placed 7 Sheet at
sheet_refusal (Headless at) = placed 8 Sheet at
sheet_refusal (Doubled at) = placed 9 Sheet at
sheet_refusal (Unbound at) = placed 10 Sheet at

abbrev pub layer_text : Layer → List ℕ
layer_text Text = codes "text"
layer_text Sheet = codes "sheet"
layer_text Pool = codes "pool"
layer_text Book = codes "book"

-- a refusal as it is printed
abbrev pub refusal_text : Refusal → List ℕ
refusal_text r = codes "refused " ++ (decimal r.number ++ (codes " " ++ (layer_text r.layer ++ (codes " " ++ (decimal r.place ++ (codes " " ++ decimal r.second))))))
