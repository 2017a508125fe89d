-- Lines of the input.
use Rattle.std.specs.Prelude.{◌≡◌, ℕ, suc, Bool, true, not, ◌&&◌, List, [], ◌∷◌, ◌++◌, length, Some, None, Option, ◌==◌}
use Rattle.console.specs.Texts.{Seen, more}

abbrev pub no_line_end : List ℕ → Bool
no_line_end [] = true
no_line_end (b ∷ bs) = not (b == 10) && no_line_end bs

-- the bytes before the first line end are read; or, where there is none, all
abbrev pub Taken : ℕ → Seen → List ℕ → Seen → Option ℕ → Type 0
Taken N s bs after None = (after ≡ more N s bs) × (no_line_end bs ≡ true)
Taken N s bs after (Some n) = (front : List ℕ) × (rest : List ℕ) × (bs ≡ front ++ (10 ∷ rest)) × (no_line_end front ≡ true) × (n ≡ suc (length front)) × (after ≡ more N s front)
