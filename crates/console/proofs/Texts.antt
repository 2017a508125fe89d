-- Bytes of the input, of which so many at most are held.
use Rattle.std.proofs.Common.{◌≡◌, ℕ, ◌<◌, ◌≤◌, leb, List, [], ◌++◌, length, Some, None, Option, sym, refl, ap, ◌∙◌, ⊎_elim, arith, append_assoc, length-append}
use Rattle.std.proofs.lemmas.Bool.{cond-true, cond-false, le-leb, lt-leb, cases_lt}
use Rattle.std.proofs.lemmas.List.{append-nil, length-take-le}
use Rattle.fixed_vec.specs.declared.FixedVec.{FixedVec}
use Rattle.fixed_vec.specs.FixedVec.{items}
use Rattle.console.specs.declared.text.Text.{Text}
use Rattle.console.specs.Texts.{Seen, whole_text, overlong_text, within, more, joined, seen, seen_of}

module _ (N : ℕ) where
  -- few enough bytes are held
  pub within_few : (bs : List ℕ) → length bs ≤ N → within N bs ≡ whole_text bs
  within_few bs h = cond-true (leb (length bs) N) _ _ (le-leb (length bs) N h)

  pub within_many : (bs : List ℕ) → N < length bs → within N bs ≡ overlong_text
  within_many bs h = cond-false (leb (length bs) N) _ _ (lt-leb (length bs) N h)

  pub more_within : (xs ys : List ℕ) → more N (within N xs) ys ≡ within N (xs ++ ys)
  more_within xs ys =
      ⊎_elim
      (λ (many : N < length xs). ap (λ s. more N s ys) (within_many xs many) ∙ sym (within_many (xs ++ ys) (omega (arith, length-append xs ys))))
      (λ (few : length xs ≤ N). ap (λ s. more N s ys) (within_few xs few))
      (cases_lt N (length xs))

  pub joined_within : (xs ys : List ℕ) → joined N (within N xs) (within N ys) ≡ within N (xs ++ ys)
  joined_within xs ys =
      ⊎_elim
      (λ (many : N < length ys). ap (joined N (within N xs)) (within_many ys many) ∙ sym (within_many (xs ++ ys) (omega (arith, length-append xs ys))))
      (λ (few : length ys ≤ N). ap (joined N (within N xs)) (within_few ys few) ∙ more_within xs ys)
      (cases_lt N (length ys))

  pub more_join : (s : Seen) (xs ys : List ℕ) → more N s (xs ++ ys) ≡ more N (more N s xs) ys
  more_join (whole_text ws) xs ys = ap (within N) (sym (append_assoc ws xs ys)) ∙ sym (more_within (ws ++ xs) ys)
  more_join overlong_text xs ys = refl

-- nothing more
pub more_nothing : {N : ℕ} (t : Text N) → more N (seen t) [] ≡ seen t
more_nothing {N = N} t = at t.bytes
  where
    at : (bytes : Option (FixedVec ℕ N)) → more N (seen_of bytes) [] ≡ seen_of bytes
    at None = refl
    at (Some v) = ap (within N) (append-nil (items v)) ∙ within_few N (items v) (omega (arith, v.fits, v.whole, length-take-le v.len v.slots (omega arith)))

-- what is held is what was read
pub held_bytes : (N : ℕ) (bs xs : List ℕ) → within N bs ≡ whole_text xs → bs ≡ xs
held_bytes N bs xs e =
    ⊎_elim
    (λ (many : N < length bs). let o : overlong_text ≡ whole_text xs = sym (within_many N bs many) ∙ e in cc)
    (λ (few : length bs ≤ N). let w : whole_text bs ≡ whole_text xs = sym (within_few N bs few) ∙ e in cc)
    (cases_lt N (length bs))
