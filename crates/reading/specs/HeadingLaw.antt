-- What reading a heading is, in the words of the subject.
use Rattle.std.specs.Prelude.{◌≡◌, ℕ, ◌≤◌, List, length, Ok, Err}
use Rattle.terms.specs.Signature.{Sig, Declared}
use Rattle.reading.specs.declared.fault.SheetFault.{SheetFault}
use Rattle.reading.specs.declared.fault.SheetFault.TheVariants.{Text, Repeated, Headless, Doubled, Unbound}
use Rattle.reading.specs.Heading.{heading_text, read_heading}

-- what can be wrong with a heading: its text, or a name that stands twice
abbrev pub OfHeading : SheetFault → Type 0
OfHeading (Text f) = Unit {0}
OfHeading (Repeated at) = Unit {0}
OfHeading (Headless at) = ⊥
OfHeading (Doubled at) = ⊥
OfHeading (Unbound at) = ⊥

-- a text is read as a signature exactly if it is the heading of that signature, which has 1 to 32 declared operators; else its text is wrong, or a name stands twice
pub record HeadingLaw (b : List ℕ) : Type 0 where
  pub accepted : (sig : Sig) → read_heading b ≡ Ok sig → Declared sig × (1 ≤ length sig) × (length sig ≤ 32) × (heading_text sig ≡ b)
  pub read_back : (sig : Sig) → Declared sig → 1 ≤ length sig → length sig ≤ 32 → heading_text sig ≡ b → read_heading b ≡ Ok sig
  pub refused : (f : SheetFault) → read_heading b ≡ Err f → OfHeading f
