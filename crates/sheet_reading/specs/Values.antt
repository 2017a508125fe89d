-- The values of weighings, as a sheet writes them: lines of values, one for each operator.
use Rattle.std.specs.Prelude.{ℕ, zero, suc, ◌%◌, ◌≤◌, cond, List, [], ◌∷◌, ◌++◌, Some, None, decimal, Option, nat_lt, slice_index_or}
use Rattle.terms.specs.Signature.{Sig}
use Rattle.reading.specs.Heading.{line_of}

-- a number, or '-'
abbrev pub Value : Type 0
Value = Option ℕ

abbrev pub value_text : Value → List ℕ
value_text None = 45 ∷ []
value_text (Some n) = decimal n

-- the lines of values: those of the first weighing, its bases and its factors of the first, second and third argument; then those of the second, if there is one
abbrev pub Grid : Type 0
Grid = List (List Value)

-- the least and the largest number that may stand for an operator of this arity in a line of bases, or of the factors of an argument; where the operator has no such argument there is none, and '-' stands
abbrev pub range_in : ℕ → ℕ → Option (ℕ × ℕ)
range_in zero arity = Some (0, 100)
range_in (suc n) arity = cond (nat_lt n arity) (Some (1, 4)) None

-- the same for a line of its number, from 0 for the first weighing's bases
abbrev pub range_of : ℕ → ℕ → Option (ℕ × ℕ)
range_of line arity = range_in (line % 4) arity

abbrev pub ValueIn : Option (ℕ × ℕ) → Value → Type 0
ValueIn None None = Unit {0}
ValueIn None (Some n) = ⊥
ValueIn (Some r) None = ⊥
ValueIn (Some r) (Some n) = (r.0 ≤ n) × (n ≤ r.1)

-- a line has a value in range for each operator
abbrev pub LineIn : ℕ → Sig → List Value → Type 0
LineIn line [] [] = Unit {0}
LineIn line [] (v ∷ vs) = ⊥
LineIn line (o ∷ os) [] = ⊥
LineIn line (o ∷ os) (v ∷ vs) = ValueIn (range_of line o.arity) v × LineIn line os vs

-- and so has each line from the one of this number on
abbrev pub GridIn : ℕ → Sig → Grid → Type 0
GridIn line sig [] = Unit {0}
GridIn line sig (vs ∷ g) = LineIn line sig vs × GridIn (suc line) sig g

abbrev pub grid_text : Grid → List ℕ
grid_text [] = []
grid_text (vs ∷ g) = line_of value_text vs ++ grid_text g

-- what a value is where none is written: base 0, factor 1
abbrev pub neutral_in : ℕ → Value
neutral_in zero = Some 0
neutral_in (suc n) = Some 1

-- the value of an operator in a line, written or not
abbrev pub cell : Grid → ℕ → ℕ → Value
cell g line f = slice_index_or (slice_index_or g line []) f (neutral_in (line % 4))
