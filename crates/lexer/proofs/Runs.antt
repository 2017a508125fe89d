-- Runs of bytes of one kind, and the first token of a text.
use Rattle.std.proofs.Common.{◌≡◌, ℕ, zero, suc, ◌+◌, ◌<◌, Bool, true, false, cond, List, [], ◌∷◌, length, get_or, take, drop, sym, refl, ap, ◌∙◌, arith, subst, leb, ◌≤◌}
use Rattle.std.specs.List.{prefix_len}
use Rattle.std.proofs.lemmas.List.Folds.{length-prefix_len}
use Rattle.std.proofs.lemmas.Bool.{cond-true, le-leb, and_from}
use Rattle.terms.specs.Signature.{lower, word, spelt}
use Rattle.reading.specs.Tokens.{front}
use Rattle.reading.proofs.Tokens.{Lexed, first_part}

-- a run is the front of what is in reach
front_run : (p : ℕ → Bool) (k : ℕ) (bs : List ℕ) → front p k bs ≡ take (prefix_len p (take k bs)) bs
front_run p zero bs = refl
front_run p (suc k) [] = refl
front_run p (suc k) (b ∷ bs) = let ih = front_run p k bs in elim (p b) as (λ t. cond t (b ∷ front p k bs) [] ≡ take (cond t (1 + prefix_len p (take k bs)) 0) (b ∷ bs)) [ true ↦ (let e : 1 + prefix_len p (take k bs) ≡ suc (prefix_len p (take k bs)) = omega arith in rw e (ap (λ l. b ∷ l) ih)) | false ↦ refl ]

-- the first byte and its run are a front of the text
pub run_is : (p : ℕ → Bool) (k : ℕ) (bs : List ℕ) (n : ℕ) → 0 < length bs → n ≡ length (take (prefix_len p (take k (drop 1 bs))) (take k (drop 1 bs))) → take (n + 1) bs ≡ get_or bs 0 0 ∷ front p k (drop 1 bs)
run_is p k [] n h e = absurd (omega arith)
run_is p k (b ∷ bs) n h e =
    let long : n ≡ prefix_len p (take k bs) = e ∙ length-prefix_len p (take k bs) in
    let one : n + 1 ≡ suc (prefix_len p (take k bs)) = omega arith in
    rw one (ap (λ l. b ∷ l) (sym (front_run p k bs)))

-- a letter and the words behind it are spelt as a name
pub words_spelt : (s text : List ℕ) → s ≡ get_or text 0 0 ∷ front word 11 (drop 1 text) → 97 ≤ get_or text 0 0 → get_or text 0 0 ≤ 122 → spelt s ≡ true
words_spelt s text e l h =
    let b : ℕ = get_or text 0 0 in
    let letter : lower b ≡ true = and_from (leb 97 b) (leb b 122) (le-leb 97 b l) (le-leb b 122 h) in
    rw e (subst Lexed (cond-true (lower b) _ _ letter) (first_part b (drop 1 text)).lexed)
