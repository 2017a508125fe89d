-- Signatures: the declared operators, each with its name and its arity.
use Rattle.std.specs.Prelude.{◌≡◌, ℕ, suc, ◌<◌, ◌≤◌, Bool, true, false, cond, ◌&&◌, ◌||◌, List, [], ◌∷◌, length, Some, None, Option, nat_le, slice_index_or}
use Rattle.std.specs.List.{list_all}
use Rattle.std.specs.Str.{bytes_eq}

-- an operator: the bytes of its name, and how many arguments it takes
pub record Op : Type 0 where
  pub name : List ℕ
  pub arity : ℕ

abbrev pub Sig : Type 0
Sig = List Op

-- an operator without a name and without arguments
abbrev pub nameless : Op
nameless = record { name = []; arity = 0 }

-- the operator of a number; past the declared ones, a nameless one
abbrev pub op_of : Sig → ℕ → Op
op_of sig f = slice_index_or sig f nameless

-- 'a' to 'z'
abbrev pub lower : ℕ → Bool
lower b = nat_le 97 b && nat_le b 122

-- '0' to '9'
abbrev pub digit : ℕ → Bool
digit b = nat_le 48 b && nat_le b 57

-- what a name goes on with
abbrev pub word : ℕ → Bool
word b = lower b || digit b

abbrev pub all_words : List ℕ → Bool
all_words = list_all word

-- a lower-case letter, and up to 11 more lower-case letters or digits
abbrev pub spelt : List ℕ → Bool
spelt [] = false
spelt (b ∷ bs) = lower b && (all_words bs && nat_le (length bs) 11)

-- names are spelt as names
abbrev pub Spelt : Sig → Type 0
Spelt sig = (f : ℕ) → f < length sig → spelt (op_of sig f).name ≡ true

-- no name stands twice
abbrev pub Apart : Sig → Type 0
Apart sig = (f g : ℕ) → (f < length sig) × (g < length sig) × ((op_of sig f).name ≡ (op_of sig g).name) → f ≡ g

-- no operator takes more than three arguments
abbrev pub Ranked : Sig → Type 0
Ranked sig = (f : ℕ) → f < length sig → (op_of sig f).arity ≤ 3

pub record Declared (sig : Sig) : Type 0 where
  pub are_spelt : Spelt sig
  pub are_apart : Apart sig
  pub are_ranked : Ranked sig

-- the number of the operator with a name, counted from i
abbrev pub found_from : ℕ → Sig → List ℕ → Option ℕ
found_from i [] s = None
found_from i (o ∷ os) s = cond (bytes_eq o.name s) (Some i) (found_from (suc i) os s)

-- the number of the operator with a name, if it is declared
abbrev pub found : Sig → List ℕ → Option ℕ
found = found_from 0
