-- What comparing the terms at two places answers, for any two views.
use Rattle.std.specs.Prelude.{◌≡◌, ◌≢◌, ◌↔◌, ℕ, ◌<◌, ◌≤◌, ◌⊎◌, List, ◌∷◌, ◌++◌, Bool, true, false, IsTrue, Some, None, Option}
use Rattle.terms.specs.declared.symbol.Symbol.{Symbol}
use Rattle.terms.specs.Term.{Term}
use Rattle.terms.specs.View.{Answers}
use Rattle.traversal.specs.Walks.{most_symbols, StandsWith}
use Rattle.traversal.specs.Rows.{row_of, Many}
use Rattle.traversal.specs.Pendings.{OfSize}

-- whether one term of at most the most symbols stands at both places, or two different ones; nothing where at one of them no such term stands
abbrev pub Compared : Answers → ℕ → Answers → ℕ → Option Bool → Type 0
Compared v p w q (Some true) = (t : Term) × StandsWith v p t × StandsWith w q t
Compared v p w q (Some false) = (t : Term) × (u : Term) × StandsWith v p t × StandsWith w q u × (t ≢ u)
Compared v p w q None = ((t : Term) → StandsWith v p t → ⊥) ⊎ ((u : Term) → StandsWith w q u → ⊥)

-- whether terms of n symbols at both places are one
abbrev pub ComparedOfSize : Answers → ℕ → Answers → ℕ → ℕ → Bool → Type 0
ComparedOfSize v p w q n r = (t u : Term) → OfSize v p n t → OfSize w q n u → IsTrue r ↔ (t ≡ u)

-- at the places of a stack stand terms of one symbol at least, and of at most the most symbols
abbrev pub SomeLeft : Answers → List ℕ → Type 0
SomeLeft v ps = (m : ℕ) × Many v ps m × (0 < m) × (m ≤ most_symbols)

-- the symbol at the top place is answered, and the places of its arguments, three at most, are put there
pub record Opened (v : Answers) (before after : List ℕ) (symbol : Option Symbol) : Type 0 where
  pub place : ℕ
  pub below : List ℕ
  pub top : before ≡ place ∷ below
  pub is : symbol ≡ v.symbol place
  pub put : after ≡ row_of v place ++ below
  pub few : v.argument place 3 ≡ None
