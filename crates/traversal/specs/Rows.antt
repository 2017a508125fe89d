-- Terms at the places of a stack, and what a visit to the top one does.
use Rattle.std.specs.Prelude.{◌≡◌, ℕ, zero, suc, ◌+◌, ◌<◌, List, [], ◌∷◌, ◌++◌, length, Some, None, Option, Ok, Err, Result}
use Rattle.fixed_vec.specs.declared.Full.{Full}
use Rattle.terms.specs.Term.{Terms, nil, cons, symbols_in}
use Rattle.terms.specs.View.{Answers, Stands}
use Rattle.traversal.specs.Walks.{most_symbols}

-- a place before others, if there is one; else none of them
abbrev pub ahead : Option ℕ → List ℕ → List ℕ
ahead None ps = []
ahead (Some q) ps = q ∷ ps

-- the places of the arguments of a place from the k-th on, up to the first gap, n at most
abbrev pub row_from : Answers → ℕ → ℕ → ℕ → List ℕ
row_from v p k zero = []
row_from v p k (suc n) = ahead (v.argument p k) (row_from v p (suc k) n)

-- the places of the arguments of a place
abbrev pub row_of : Answers → ℕ → List ℕ
row_of v p = row_from v p 0 3

-- a row of at most three in three slots
abbrev pub padded : List ℕ → List (Option ℕ)
padded [] = None ∷ None ∷ None ∷ []
padded (p ∷ []) = Some p ∷ None ∷ None ∷ []
padded (p ∷ q ∷ []) = Some p ∷ Some q ∷ None ∷ []
padded (p ∷ q ∷ r ∷ ps) = Some p ∷ Some q ∷ Some r ∷ []

-- the terms stand at the places, each at its own
abbrev pub StandAll : Answers → List ℕ → Terms → Type 0
StandAll v [] nil = Unit {0}
StandAll v [] (cons t ts) = ⊥
StandAll v (p ∷ ps) nil = ⊥
StandAll v (p ∷ ps) (cons t ts) = Stands v p t × StandAll v ps ts

-- terms of so many symbols stand at the places
abbrev pub Many : Answers → List ℕ → ℕ → Type 0
Many v ps m = (ts : Terms) × StandAll v ps ts × (symbols_in ts ≡ m)

-- the row is put before what was there; or there is no room for it
abbrev pub PutBefore : List ℕ → List ℕ → List ℕ → Result (Unit {0}) Full → Type 0
PutBefore row before after (Ok u) = after ≡ row ++ before
PutBefore row before after (Err e) = most_symbols < length row + length before

-- one symbol is taken from the terms at the places; or no terms of at most the most symbols stand there
abbrev pub Visited : Answers → List ℕ → List ℕ → Option (Unit {0}) → Type 0
Visited v before after (Some u) = ((m : ℕ) → Many v after m → Many v before (suc m)) × ((m : ℕ) → Many v before m → (k : ℕ) × (m ≡ suc k) × Many v after k)
Visited v before after None = (m : ℕ) → Many v before m → most_symbols < m
