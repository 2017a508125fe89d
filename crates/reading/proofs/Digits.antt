-- Digits are read as the number whose decimal they are.
use Rattle.std.proofs.Common.{◌≡◌, ℕ, zero, suc, ◌^◌, ◌<◌, ◌≤◌, true, not, eqb, leb, List, [], ◌∷◌, length, get_or, drop, Some, None, decimal, Option, sym, refl, ap, ◌∙◌, subst, inl, inr, arith, rules}
use Rattle.std.proofs.lemmas.Str.Parse.{IsNumeralModel, numerals_by_fold}
use Rattle.std.proofs.lemmas.Fmt.{digits_decimal, digits_value-decimal, decimal-digits_value, decimal_nonempty, decimal_digit, first_decimal}
use Rattle.std.proofs.lemmas.Bool.{false≢true, ne_eqb, eqb-false, not-true, le-leb, leb-true, cond-true, cond-false, cond_both, cases_Bool, eqb-true}
use Rattle.reading.specs.Numbers.{plain, value_after, up_to, numbered, instrument_number}
use Rattle.reading.specs.Laws.{AllDigits, DecimalNumbers}
use Rattle.std.proofs.lemmas.Option.{none-some}

own : IsNumeralModel AllDigits (value_after 0)
own = numerals_by_fold _ (search rules) value_after (search rules)

plain_large : (ds : List ℕ) → 0 < length ds → 48 < get_or ds 0 0 → plain ds ≡ true
plain_large [] h k = absurd (omega arith)
plain_large (d ∷ []) h k = refl
plain_large (d ∷ e ∷ ds) h k = ap not (ne_eqb d 48 (λ q. omega arith))

plain_decimal : (n : ℕ) → n < 2 ^ 64 → plain (decimal n) ≡ true
plain_decimal zero h = ap plain (decimal_digit 0 (omega arith))
plain_decimal (suc n) h = plain_large (decimal (suc n)) (decimal_nonempty (suc n) h) (first_decimal (suc n) (omega arith) h)

plain_some : (ds : List ℕ) → plain ds ≡ true → 0 < length ds
plain_some [] h = absurd (false≢true h)
plain_some (d ∷ ds) h = omega arith

plain_lead : (ds : List ℕ) → plain ds ≡ true → get_or ds 0 0 ≡ 48 → length ds ≡ 1
plain_lead [] h e = absurd (omega arith)
plain_lead (d ∷ []) h e = refl
plain_lead (d ∷ f ∷ ds) h e = absurd (eqb-false d 48 (not-true (eqb d 48) h) e)

pub all_digits_decimal : (n : ℕ) → n < 2 ^ 64 → AllDigits (decimal n)
all_digits_decimal n h = digits_decimal own n h

-- the number that comes of digits is the one whose decimal they are
abbrev Written : ℕ → List ℕ → Option ℕ → Type 0
Written most ds None = Unit {0}
Written most ds (Some n) = (ds ≡ decimal n) × (n ≤ most)

written : (most : ℕ) (ds : List ℕ) → most < 2 ^ 64 → AllDigits ds → Written most ds (numbered most ds)
written most ds h a = cond_both (plain ds) (up_to most (value_after 0 ds)) None (Written most ds)
    (λ p. cond_both (leb (value_after 0 ds) most) (Some (value_after 0 ds)) None (Written most ds)
    (λ q. let l = leb-true (value_after 0 ds) most q in
    (sym (decimal-digits_value own ds a (plain_some ds p) (plain_lead ds p) (omega arith)), l))
    (λ _. tt))
    (λ _. tt)

pub numbered_decimal : (most n : ℕ) → most < 2 ^ 64 → n ≤ most → numbered most (decimal n) ≡ Some n
numbered_decimal most n h l =
    let small : n < 2 ^ 64 = omega arith in
    let e : value_after 0 (decimal n) ≡ n = digits_value-decimal own n small in
    cond-true (plain (decimal n)) _ _ (plain_decimal n small) ∙ cond-true _ _ _ (le-leb (value_after 0 (decimal n)) most (omega arith)) ∙ ap Some e

pub numbers : DecimalNumbers
numbers most ds n h a = ((λ e. subst (Written most ds) e (written most ds h a)), λ w. ap (numbered most) w.0 ∙ numbered_decimal most n h w.1)

-- an instrument's digits are the decimal of its number
pub instrument_is : (s : List ℕ) (n : ℕ) → AllDigits (drop 1 s) → instrument_number s ≡ Some n → (s ≡ 35 ∷ decimal n) × (n ≤ 999999)
instrument_is [] n a e = absurd (none-some _ e)
instrument_is (b ∷ ds) n a e = elim (cases_Bool (eqb b 35)) as (λ _. (b ∷ ds ≡ 35 ∷ decimal n) × (n ≤ 999999)) [
  | inl p ↦ (let (q, l) = (numbers 999999 ds n (omega arith) a).0 (sym (cond-true _ _ _ p) ∙ e) in
      let c = eqb-true b 35 p in
      (cc, l))
  | inr p ↦ absurd (none-some _ (sym (cond-false (eqb b 35) (numbered 999999 ds) None p) ∙ e))
]
