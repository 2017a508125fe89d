-- Words of 32 bits as sets of numbers: bit j is 1 where j is a member.
use Rattle.std.proofs.Common.{◌≡◌, ◌≢◌, ℕ, ◌-◌, ◌*◌, ◌^◌, ◌%◌, ◌<◌, ◌≤◌, min, true, false, not, ◌&&◌, ◌||◌, ◌==◌, nat_lt, bit_and, bit_or, arith}
use Rattle.std.specs.Int.{bit_at, w32}
use Rattle.std.specs.Int.Count.{count_trailing_zeros}
use Rattle.std.proofs.Math.Logic.{inl, inr}
use Rattle.std.proofs.lemmas.Bool.{cases_eq, cases_lt}
use Rattle.std.proofs.lemmas.Bool.Decides.{nat_tests}
use Rattle.std.proofs.lemmas.Nat.Bits.{bit_at-lt, bit_at_and, bit_at-zero, bit_at_ones, bit_at_ones_above, bit_at_above, bit_at_set_same, bit_at_set_other, bit_at_clear_same, bit_at_clear_other, bit_at-trailing_zeros, same_from_bits}

-- the lesser of two bits is 1 where both are
min_bit : (x y : ℕ) → x < 2 → y < 2 → (min x y == 1) ≡ ((x == 1) && (y == 1))
min_bit x y xs ys = grind (arith, nat_tests)

-- the members of both words are the bits of their `&`
pub both_bits : (a b j : ℕ) → (bit_at (bit_and a b) j == 1) ≡ ((bit_at a j == 1) && (bit_at b j == 1))
both_bits a b j = rw bit_at_and (min_bit _ _ (bit_at-lt a j) (bit_at-lt b j))

-- the word of ones has every number below 32
pub ones_bits : (j : ℕ) → (bit_at 4294967295 j == 1) ≡ nat_lt j 32
ones_bits j = elim (cases_lt j 32) [
  | inl within ↦ (let e = bit_at_ones 32 j within in grind (arith, nat_tests))
  | inr past ↦ (let e = bit_at_ones_above 32 j past in grind (arith, nat_tests))
]

-- a word with one more bit
pub set_bits : (n i j : ℕ) → i < 32 → (bit_at (bit_or n (1 * 2 ^ i % 4294967296)) j == 1) ≡ ((j == i) || (bit_at n j == 1))
set_bits n i j within = elim (cases_eq j i) [
  | inl same ↦ (let e = bit_at_set_same w32 n i within in grind (arith, nat_tests))
  | inr other ↦ (let e = bit_at_set_other w32 n i within j other in grind (arith, nat_tests))
]

-- a word with no bit at a number
pub clear_bits : (n i j : ℕ) → n < 4294967296 → i < 32 → (bit_at (bit_and n (4294967295 - 1 * 2 ^ i % 4294967296)) j == 1) ≡ ((bit_at n j == 1) && not (j == i))
clear_bits n i j fits within = elim (cases_lt j 32) [
  | inr past ↦ (let e = bit_at_above n 32 j fits past in let b = bit_at_and n (4294967295 - 1 * 2 ^ i % 4294967296) j in grind (arith, nat_tests))
  | inl low ↦ (elim (cases_eq j i) [
    | inl same ↦ (let e = bit_at_clear_same w32 n i within in grind (arith, nat_tests))
    | inr other ↦ (let e = bit_at_clear_other w32 n i within j low other in grind (arith, nat_tests))
  ])
]

-- a number past 31 is in no word
pub past_bits : (n i j : ℕ) → n < 4294967296 → 32 ≤ i → (bit_at n j == 1) ≡ ((bit_at n j == 1) && not (j == i))
past_bits n i j fits past = elim (cases_eq j i) [
  | inl same ↦ (let e = bit_at_above n 32 i fits past in grind (arith, nat_tests))
  | inr other ↦ grind (arith, nat_tests)
]

-- a word with no bit is 0
pub void_word : (n : ℕ) → ((j : ℕ) → (bit_at n j == 1) ≡ false) → n ≡ 0
void_word n none = same_from_bits n 0 (λ i. let e = none i in let z = bit_at-zero i in let l = bit_at-lt n i in grind (arith, nat_tests))

-- the word 0 has no bit
pub zero_bits : (j : ℕ) → (bit_at 0 j == 1) ≡ false
zero_bits j = let z = bit_at-zero j in grind (arith, nat_tests)

-- the place of the lowest 1 of a word has a bit
pub lowest_bit : (n : ℕ) → n < 4294967296 → n ≢ 0 → (bit_at n (count_trailing_zeros 32 n) == 1) ≡ true
lowest_bit n fits some = let e = (bit_at-trailing_zeros w32 n (omega arith) fits).1 in grind (arith, nat_tests)

-- no place below it has one
pub none_lower : (n j : ℕ) → n < 4294967296 → n ≢ 0 → j < count_trailing_zeros 32 n → (bit_at n j == 1) ≡ false
none_lower n j fits some below = let e = (bit_at-trailing_zeros w32 n (omega arith) fits).2 j below in grind (arith, nat_tests)

-- what each operation on words does to their bits
pub ruleset word_bits = (both_bits, ones_bits, set_bits, clear_bits, past_bits, void_word, zero_bits, lowest_bit, none_lower)
