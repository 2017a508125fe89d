-- The symbols of a side of a rule in reading order.
use Rattle.std.specs.Prelude.{ℕ, ◌≤◌, zero, suc, Bool, true, false, cond, ◌==◌, ◌||◌, List, [], ◌∷◌, ◌++◌, Some, None, Option}
use Rattle.terms.specs.declared.symbol.Symbol.{Symbol}
use Rattle.terms.specs.declared.symbol.Symbol.TheVariants.{Instrument, Operator}
use Rattle.terms.specs.Term.{Term, variable, instrument, apply, Terms, nil, cons, how_many}

-- what must stand where a pattern has this symbol in front: anything for a variable
abbrev pub wanted : Term → Option Symbol
wanted (variable x) = None
wanted (instrument n) = Some (Instrument n)
wanted (apply f ts) = Some (Operator f)

-- whether a row has a term
abbrev pub any : Terms → Bool
any nil = false
any (cons t ts) = true

-- whether a term has arguments
abbrev pub has_arguments : Term → Bool
has_arguments (variable x) = false
has_arguments (instrument n) = false
has_arguments (apply f ts) = any ts

-- the parts of the terms of a row, one for each symbol, in reading order
abbrev mutual
  pub parts_of : Terms → List Term
  parts_of nil = []
  parts_of (cons t us) = t ∷ (parts_under t ++ parts_of us)

  -- those of a term but itself
  pub parts_under : Term → List Term
  parts_under (variable x) = []
  parts_under (instrument n) = []
  parts_under (apply f ts) = parts_of ts

abbrev pub is_variable : ℕ → Term → Bool
is_variable x (variable y) = x == y
is_variable x (instrument n) = false
is_variable x (apply f ts) = false

-- whether a variable is among the parts
abbrev pub has_variable : ℕ → List Term → Bool
has_variable x [] = false
has_variable x (t ∷ ts) = is_variable x t || has_variable x ts

-- the number among the parts at which a variable stands first
abbrev pub home : ℕ → List Term → ℕ
home x [] = zero
home x (t ∷ ts) = cond (is_variable x t) zero (suc (home x ts))

-- how many of the parts are no variables
abbrev pub plain : List Term → ℕ
plain [] = 0
plain (variable x ∷ ts) = plain ts
plain (instrument n ∷ ts) = suc (plain ts)
plain (apply f us ∷ ts) = suc (plain ts)

-- no operator has more than three arguments
abbrev mutual
  pub Narrow : Term → Type 0
  Narrow (variable x) = Unit {0}
  Narrow (instrument n) = Unit {0}
  Narrow (apply f ts) = (how_many ts ≤ 3) × AllNarrow ts

  pub AllNarrow : Terms → Type 0
  AllNarrow nil = Unit {0}
  AllNarrow (cons t ts) = Narrow t × AllNarrow ts
