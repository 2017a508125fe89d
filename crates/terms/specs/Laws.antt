-- What holds of terms, their text and their views.
use Rattle.std.specs.Prelude.{◌≡◌, ℕ, ◌*◌, ◌≤◌}
use Rattle.terms.specs.Term.{Term, symbols}
use Rattle.terms.specs.Signature.{Sig, Declared}
use Rattle.terms.specs.Ticket.{TermOf, Ticket}
use Rattle.terms.specs.Substitution.{renamed}
use Rattle.terms.specs.Text.{text_of}
use Rattle.terms.specs.View.{Answers, Stands, renamed_answers}
use Rattle.terms.specs.Off.{read_off}

-- on the tickets of a signature, equal text exactly if equal term
abbrev pub UniqueText : Type 0
UniqueText = (sig : Sig) → Declared sig → (t u : Term) → Ticket sig t → Ticket sig u → (text_of sig t ≡ text_of sig u → t ≡ u) × (t ≡ u → text_of sig t ≡ text_of sig u)

-- the same of its terms with variables
abbrev pub UniqueTermText : Type 0
UniqueTermText = (sig : Sig) → Declared sig → (t u : Term) → TermOf sig t → TermOf sig u → text_of sig t ≡ text_of sig u → t ≡ u

-- at most one term stands at a place
abbrev pub OneAtAPlace : Type 0
OneAtAPlace = (v : Answers) (p : ℕ) (t u : Term) → Stands v p t → Stands v p u → t ≡ u

-- at the places of a renamed view stand the renamed terms of the view below, and no others
abbrev pub RenamedStand : Answers → Type 0
RenamedStand v = (p : ℕ) → ((t : Term) → Stands v p t → Stands (renamed_answers v) p (renamed t)) × ((u : Term) → Stands (renamed_answers v) p u → (t : Term) × Stands v p t × (u ≡ renamed t))

-- the term that stands at a place is read off there, if two links are followed for each of its symbols
abbrev pub ReadOffStands : Type 0
ReadOffStands = (v : Answers) (p : ℕ) (t : Term) (n : ℕ) → Stands v p t → 2 * symbols t ≤ n → read_off n v p ≡ t
