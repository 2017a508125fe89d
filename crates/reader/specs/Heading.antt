-- What the code holds while it reads the lines that head a sheet, and what it answers.
use Rattle.std.specs.Prelude.{◌≡◌, Ok, Err, Result}
use Rattle.signature.specs.declared.operator.Undeclarable.{Undeclarable}
use Rattle.signature.specs.declared.operator.Undeclarable.TheVariants.{Misspelt, Full, Twice}
use Rattle.signature.specs.declared.Signature.{Signature}
use Rattle.terms.specs.Signature.{Sig}
use Rattle.signature.specs.Declaring.{sig_of}
use Rattle.reading.specs.declared.token.At.{At}
use Rattle.reading.specs.declared.fault.TextFault.TheVariants.{Unexpected, PastLimit}
use Rattle.reading.specs.declared.fault.SheetFault.{SheetFault}
use Rattle.reading.specs.declared.fault.SheetFault.TheVariants.{Text, Repeated}
use Rattle.reading.specs.Heading.{Head, Outcome}
use Rattle.reader.specs.declared.heading.Heading.{Heading}
use Rattle.reader.specs.Machine.{Stepped}

-- the operators so far, and what may come
abbrev pub head_of : Heading → Head
head_of h = (sig_of h.signature, h.stage)

-- after one token: what the definition comes to; or its fault
abbrev pub Headed : Result (Unit {0}) SheetFault → Outcome → Head → Type 0
Headed r o h = Stepped r o (λ s. s ≡ h)

-- the fault of a name that is not declared
abbrev pub why_not : Undeclarable → At → SheetFault
why_not Misspelt at = Text (Unexpected at)
why_not Full at = Text (PastLimit at)
why_not Twice at = Repeated at

-- at the end of the text: the signature that the definition gives, or its fault
abbrev pub Heads : Result Signature SheetFault → Result Sig SheetFault → Type 0
Heads (Ok s) o = o ≡ Ok (sig_of s)
Heads (Err e) o = o ≡ Err e
