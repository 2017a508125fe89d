-- One order, then another: the first decides, and where it only does not go up the second does.
use Rattle.std.specs.Prelude.{◌⊎◌}

-- the first relation strictly, or weakly and then the second
abbrev pub Then : {A B : Type 0} → (A → B → Type 0) → (A → B → Type 0) → (A → B → Type 0) → A → B → Type 0
Then strict weak next a b = strict a b ⊎ (weak a b × next a b)

-- the same of sets
abbrev pub ThenOf : {A : Type 0} → (A → Type 0) → (A → Type 0) → (A → Type 0) → A → Type 0
ThenOf strict weak next a = strict a ⊎ (weak a × next a)
