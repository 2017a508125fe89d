-- Many steps of a relation: what they reach, where they end, and conversions.
use Rattle.std.specs.Prelude.{◌⊎◌}

-- any number of steps lead from the first to the second, none included
pub data Reduces {A : Type 0} (R : A → A → Type 0) : A → A → Type 0 where
  done : {a : A} → Reduces R a a
  more : {a b c : A} → R a b → Reduces R b c → Reduces R a c

-- both reduce to one and the same
abbrev pub Joinable : {A : Type 0} (R : A → A → Type 0) → A → A → Type 0
Joinable {A} R a b = (c : A) × Reduces R a c × Reduces R b c

-- no step leads on: a normal form
abbrev pub Normal : {A : Type 0} (R : A → A → Type 0) → A → Type 0
Normal {A} R a = (b : A) → R a b → ⊥

-- no list of steps from here is endless: so it is where it is so one step further on
pub data Ends {A : Type 0} (R : A → A → Type 0) : A → Type 0 where
  ends : {a : A} → ((b : A) → R a b → Ends R b) → Ends R a

-- a conversion: a list of members of P whose neighbours are joined by one step, either way. It joins its first to its last; one alone is a conversion
pub data Conversion {A : Type 0} (P : A → Type 0) (R : A → A → Type 0) : A → A → Type 0 where
  alone : {a : A} → P a → Conversion P R a a
  on : {a b c : A} → P a → R a b ⊎ R b a → Conversion P R b c → Conversion P R a c
