-- The steps of reading a number.
use Rattle.std.proofs.Common.{◌≡◌, ℕ, ◌+◌, ◌-◌, ◌*◌, ◌<◌, ◌≤◌, List, [], ◌∷◌, length, get_or, take, drop, Some, None, sym, ap, add-one, arith, drop-cons}
use Rattle.std.proofs.lemmas.Slice.{between_to_end}
use Rattle.std.proofs.lemmas.Bool.{lt-leb, le-leb}
use Rattle.std.proofs.lemmas.List.{drop_all}
use Rattle.reading.specs.Numbers.{value_after, up_to, numbered, instrument_number}

-- further digits write no smaller number
pub value_grows : (n : ℕ) (ds : List ℕ) → n ≤ value_after n ds
value_grows n [] = omega arith
value_grows n (d ∷ ds) = let h = value_grows (n * 10 + (d - 48)) ds in omega arith

pub value_more : (n i : ℕ) (ds : List ℕ) → i < length ds → value_after n (drop i ds) ≡ value_after (n * 10 + (get_or ds i 0 - 48)) (drop (i + 1) ds)
value_more n i ds h = rw (drop-cons ds i 0 h, add-one)

pub value_done : (n i : ℕ) (ds : List ℕ) → length ds ≤ i → value_after n (drop i ds) ≡ n
value_done n i ds h = ap (value_after n) (drop_all i ds h)

pub up_past : (most v : ℕ) → most < v → up_to most v ≡ None
up_past most v h = rw (lt-leb v most h)

pub up_within : (most v : ℕ) → v ≤ most → up_to most v ≡ Some v
up_within most v h = rw (le-leb v most h)

pub instrument_is : (part : List ℕ) → 0 < length part → get_or part 0 0 ≡ 35 → instrument_number part ≡ numbered 999999 (take (length part - 1) (drop 1 part))
instrument_is [] h e = absurd (omega arith)
instrument_is (b ∷ ds) h e = rw e (ap (numbered 999999) (sym (between_to_end (b ∷ ds) 1 (length (b ∷ ds)) (omega arith))))
