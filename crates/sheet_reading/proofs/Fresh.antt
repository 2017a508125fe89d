-- A name that is none of those declared, where there are at most 32.
use Rattle.std.proofs.Common.{◌≡◌, ℕ, zero, suc, ◌+◌, ◌/◌, ◌%◌, ◌<◌, ◌≤◌, true, cond, ◌&&◌, leb, List, [], ◌∷◌, length, None, sym, refl, ◌∙◌, ⊎_elim, arith}
use Rattle.std.specs.Str.{bytes_eq}
use Rattle.std.proofs.lemmas.Slice.Eq.{bytes_eq-Decides}
use Rattle.std.proofs.lemmas.Bool.{cond-true, cond-false, cond_both, cases_lt, cases_Bool, and_from, or_left, le-leb}
use Rattle.terms.specs.Signature.{Sig, lower, word, spelt, found_from, found}

-- some names: two letters for each number below 128

abbrev letters : ℕ → List ℕ
letters i = (97 + i / 8) ∷ ((97 + i % 8) ∷ [])

lower_is : (b : ℕ) → 97 ≤ b → b ≤ 122 → lower b ≡ true
lower_is b h j = and_from (leb 97 b) _ (le-leb 97 b h) (le-leb b 122 j)

letters_spelt : (i : ℕ) → i < 128 → spelt (letters i) ≡ true
letters_spelt i h =
    let second : word (97 + i % 8) ≡ true = or_left (lower (97 + i % 8)) _ (lower_is (97 + i % 8) (omega arith) (omega arith)) in
    and_from (lower (97 + i / 8)) _ (lower_is (97 + i / 8) (omega arith) (omega arith)) (and_from (word (97 + i % 8) && true) _ (and_from (word (97 + i % 8)) true second refl) refl)

letters_apart : (i j : ℕ) → letters i ≡ letters j → i ≡ j
letters_apart i j e =
    let p : 97 + i / 8 ≡ 97 + j / 8 = cc in
    let q : 97 + i % 8 ≡ 97 + j % 8 = cc in
    omega arith

-- 1 if the two are the same
abbrev hit : List ℕ → List ℕ → ℕ
hit s t = cond (bytes_eq s t) 1 0

-- how many of the first of these names are this one
abbrev times : ℕ → List ℕ → ℕ
times zero s = 0
times (suc i) s = hit s (letters i) + times i s

none_before : (i j : ℕ) (s : List ℕ) → i ≤ j → s ≡ letters j → times i s ≡ 0
none_before zero j s h e = refl
none_before (suc i) j s h e =
    let ih = none_before i j s (omega arith) e in
    cond_both (bytes_eq s (letters i)) 1 0 (λ x. x + times i s ≡ 0) (λ q. absurd (omega (arith, letters_apart i j (sym ((bytes_eq-Decides s (letters i)).0 q) ∙ e)))) (λ _. omega arith)

at_most_once : (i : ℕ) (s : List ℕ) → times i s ≤ 1
at_most_once zero s = omega arith
at_most_once (suc i) s =
    let ih = at_most_once i s in
    cond_both (bytes_eq s (letters i)) 1 0 (λ x. x + times i s ≤ 1) (λ q. omega (arith, none_before i i s (omega arith) ((bytes_eq-Decides s (letters i)).0 q))) (λ _. omega arith)

-- how many of them are declared, each declaration counted
abbrev taken : ℕ → Sig → ℕ
taken i [] = 0
taken i (o ∷ os) = times i o.name + taken i os

few_taken : (i : ℕ) (sig : Sig) → taken i sig ≤ length sig
few_taken i [] = omega arith
few_taken i (o ∷ os) = omega (arith, few_taken i os, at_most_once i o.name)

abbrev hits : List ℕ → Sig → ℕ
hits s [] = 0
hits s (o ∷ os) = hit o.name s + hits s os

taken_more : (i : ℕ) (sig : Sig) → taken (suc i) sig ≡ hits (letters i) sig + taken i sig
taken_more i [] = omega arith
taken_more i (o ∷ os) = omega (arith, taken_more i os)

not_found : (i : ℕ) (sig : Sig) (s : List ℕ) → hits s sig ≡ 0 → found_from i sig s ≡ None
not_found i [] s h = refl
not_found i (o ∷ os) s h = ⊎_elim
    (λ e. absurd (omega (arith, cond-true {A = ℕ} (bytes_eq o.name s) 1 0 e)))
    (λ e. cond-false _ _ _ e ∙ not_found (suc i) os s (omega (arith, cond-false {A = ℕ} (bytes_eq o.name s) 1 0 e)))
    (cases_Bool (bytes_eq o.name s))

one_free : (i : ℕ) (sig : Sig) → taken i sig < i → (j : ℕ) × (j < i) × (found sig (letters j) ≡ None)
one_free zero sig h = absurd (omega arith)
one_free (suc i) sig h =
    let more = taken_more i sig in
    ⊎_elim
    (λ l. let (j, a, b) = one_free i sig (omega arith) in (j, omega arith, b))
    (λ l. (i, omega arith, not_found 0 sig (letters i) (omega arith)))
    (cases_lt 0 (hits (letters i) sig))

pub fresh : (sig : Sig) → length sig ≤ 32 → (s : List ℕ) × (spelt s ≡ true) × (found sig s ≡ None)
fresh sig h = let (j, l, e) = one_free 33 sig (omega (arith, few_taken 33 sig)) in (letters j, letters_spelt j (omega arith), e)
