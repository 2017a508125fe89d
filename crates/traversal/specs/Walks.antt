-- What counting the symbols of a term and writing its text answer, for every view.
use Rattle.std.specs.Prelude.{◌≡◌, ℕ, ◌<◌, ◌≤◌, List, ◌++◌, length, drop, Some, None, Ok, Err, Option, Result}
use Rattle.terms.specs.Term.{Term, symbols}
use Rattle.terms.specs.Signature.{Sig}
use Rattle.terms.specs.Text.{text_of}
use Rattle.terms.specs.View.{Answers, Stands}
use Rattle.traversal.specs.declared.unwritten.Unwritten.{Unwritten}
use Rattle.traversal.specs.declared.unwritten.Unwritten.TheVariants.{NoTerm, TooShort}

-- the most symbols of a term that is walked: those of the largest pool
unfoldable pub most_symbols : ℕ
most_symbols = 16384

-- a term of so many symbols stands at the place
abbrev pub StandsWith : Answers → ℕ → Term → Type 0
StandsWith v p t = Stands v p t × (symbols t ≤ most_symbols)

-- the number of symbols of the term at a place; nothing where no term of at most the most symbols stands
abbrev pub Counted : Answers → ℕ → Option ℕ → Type 0
Counted v p None = (t : Term) → StandsWith v p t → ⊥
Counted v p (Some n) = (t : Term) × StandsWith v p t × (symbols t ≡ n)

-- the text stands at the front of the buffer and the rest is as it was; or nothing is written, since the buffer is too short or no such term stands there
abbrev pub Written : Sig → Answers → ℕ → List ℕ → List ℕ → Result ℕ Unwritten → Type 0
Written sig v p before after (Ok n) = (t : Term) × StandsWith v p t × (n ≡ length (text_of sig t)) × (n ≤ length before) × (after ≡ text_of sig t ++ drop n before)
Written sig v p before after (Err TooShort) = ((t : Term) × StandsWith v p t × (length before < length (text_of sig t))) × (after ≡ before)
Written sig v p before after (Err NoTerm) = ((t : Term) → StandsWith v p t → ⊥) × (after ≡ before)
