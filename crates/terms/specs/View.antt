-- What a term view says: the symbol at a place, the place of each argument, and so the term that stands there.
use Rattle.std.specs.Prelude.{◌≡◌, ℕ, suc, ◌+◌, ◌%◌, Some, None, Option}
use Rattle.terms.specs.declared.symbol.Symbol.{Symbol}
use Rattle.terms.specs.declared.symbol.Symbol.TheVariants.{Variable, Instrument, Operator}
use Rattle.terms.specs.Term.{Term, variable, instrument, apply, Terms, nil, cons}

-- the answers of a view
pub record Answers : Type 0 where
  pub symbol : ℕ → Option Symbol
  pub argument : ℕ → ℕ → Option ℕ

-- the term stands at the place: its symbol does, its arguments stand at the places given for them, and no further argument is given
abbrev mutual
  pub Stands : Answers → ℕ → Term → Type 0
  Stands v p (variable x) = (v.symbol p ≡ Some (Variable x)) × (v.argument p 0 ≡ None)
  Stands v p (instrument n) = (v.symbol p ≡ Some (Instrument n)) × (v.argument p 0 ≡ None)
  Stands v p (apply f ts) = (v.symbol p ≡ Some (Operator f)) × StandFrom v p 0 ts

  -- the terms stand as the arguments of a place from the k-th on
  pub StandFrom : Answers → ℕ → ℕ → Terms → Type 0
  StandFrom v p k nil = v.argument p k ≡ None
  StandFrom v p k (cons t ts) = (q : ℕ) × (v.argument p k ≡ Some q) × Stands v q t × StandFrom v p (suc k) ts

-- a symbol with its variable renamed
abbrev pub renamed_symbol : Option Symbol → Option Symbol
renamed_symbol None = None
renamed_symbol (Some (Variable x)) = Some (Variable ((x + 8) % 16))
renamed_symbol (Some (Instrument n)) = Some (Instrument n)
renamed_symbol (Some (Operator f)) = Some (Operator f)

abbrev pub renamed_answers : Answers → Answers
renamed_answers v = record { symbol = λ p. renamed_symbol (v.symbol p); argument = v.argument }
