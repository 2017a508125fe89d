-- What a weighing holds, by line and operator: the bases in line 0, the factors of the argument n in line n + 1.
use Rattle.std.specs.Prelude.{◌≡◌, ℕ, zero, suc, ◌<◌, ◌≤◌, cond, ◌&&◌, map, Some, None, Ok, Err, ◌==◌, Option, Result, slice_index_or}
use Rattle.sheet_reading.specs.Values.{Value, neutral_in}
use Rattle.weighing.specs.Factor.{Factor}
use Rattle.weighing.specs.declared.Row.{Row}
use Rattle.weighing.specs.declared.Unweighable.{Unweighable}
use Rattle.weighing.specs.declared.Unweighable.TheVariants.{PastOperators, PastArguments, OutOfRange}
use Rattle.weighing.specs.declared.Weighing.{Weighing}
use Rattle.weighing.specs.declared.bounded.Bounded.{Bounded}

-- a factor as it is written
abbrev pub written : {l m : ℕ} → Option (Bounded l m) → Value
written None = None
written (Some factor) = Some factor.value

-- what a row has for a line
abbrev pub entry_of : Row → ℕ → Value
entry_of r zero = Some r.base.value
entry_of r (suc n) = slice_index_or (map written r.factors) n (Some 1)

-- the value of an operator in a line; past the last operator, the one where none is written
abbrev pub value_at : Weighing → ℕ → ℕ → Value
value_at w line f = slice_index_or (map (λ (r : Row). entry_of r line) w.rows) f (neutral_in line)

-- base 0 and factor 1 everywhere
abbrev pub Missing : Weighing → Type 0
Missing w = (line f : ℕ) → line < 4 → value_at w line f ≡ neutral_in line

-- one value is another, and all the others are as before
abbrev pub Puts : Weighing → ℕ → ℕ → Value → Weighing → Type 0
Puts w line f v after = (l g : ℕ) → l < 4 → value_at after l g ≡ cond (l == line && g == f) v (value_at w l g)

-- a base is put; or nothing changes, as there is no such operator, or else as the base is too large
abbrev pub PutsBase : Weighing → ℕ → ℕ → Weighing → Result (Unit {0}) Unweighable → Type 0
PutsBase w f b after (Ok done) = Puts w 0 f (Some b) after × (f < 32) × (b ≤ 100)
PutsBase w f b after (Err PastOperators) = (after ≡ w) × (32 ≤ f)
PutsBase w f b after (Err PastArguments) = ⊥
PutsBase w f b after (Err OutOfRange) = (after ≡ w) × (f < 32) × (100 < b)

-- a factor is put; or nothing changes, as there is no such operator, or else no such argument, or else as it is no factor
abbrev pub PutsFactor : Weighing → ℕ → ℕ → Value → Weighing → Result (Unit {0}) Unweighable → Type 0
PutsFactor w f n v after (Ok done) = Puts w (suc n) f v after × (f < 32) × (n < 3) × Factor v
PutsFactor w f n v after (Err PastOperators) = (after ≡ w) × (32 ≤ f)
PutsFactor w f n v after (Err PastArguments) = (after ≡ w) × (f < 32) × (3 ≤ n)
PutsFactor w f n v after (Err OutOfRange) = (after ≡ w) × (f < 32) × (n < 3) × (Factor v → ⊥)

-- what a factor multiplies by
abbrev pub times : Value → ℕ
times None = 1
times (Some n) = n
