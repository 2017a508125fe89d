-- Numbers in decimal, and the numbers of instruments.
use Rattle.std.specs.Prelude.{ℕ, ◌+◌, ◌-◌, ◌*◌, Bool, true, false, cond, not, List, [], ◌∷◌, Some, None, Option, ◌==◌, nat_le}

-- some digits, and no needless zero in front
abbrev pub plain : List ℕ → Bool
plain [] = false
plain (d ∷ []) = true
plain (d ∷ e ∷ ds) = not (d == 48)

-- the number that digits write behind those of n
abbrev pub value_after : ℕ → List ℕ → ℕ
value_after n [] = n
value_after n (d ∷ ds) = value_after (n * 10 + (d - 48)) ds

abbrev pub up_to : ℕ → ℕ → Option ℕ
up_to most n = cond (nat_le n most) (Some n) None

-- the number that digits write, without a needless zero and up to a largest one
abbrev pub numbered : ℕ → List ℕ → Option ℕ
numbered most ds = cond (plain ds) (up_to most (value_after 0 ds)) None

-- of '#' and digits
abbrev pub instrument_number : List ℕ → Option ℕ
instrument_number [] = None
instrument_number (b ∷ ds) = cond (b == 35) (numbered 999999 ds) None
