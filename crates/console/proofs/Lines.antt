-- Lines of the input, byte by byte.
use Rattle.std.proofs.Common.{◌≡◌, ℕ, ◌+◌, ◌<◌, ◌≤◌, true, not, eqb, List, [], ◌∷◌, ◌++◌, length, get_or, take, drop, Some, None, sym, refl, ap, ◌∙◌, arith, length-take}
use Rattle.std.proofs.lemmas.List.{take_more, take_all, drop_more, take-append-drop}
use Rattle.std.proofs.lemmas.Bool.{and_from, and_parts, not_from_false, ne_eqb}
use Rattle.console.specs.Texts.{Seen, more}
use Rattle.console.specs.Lines.{no_line_end, Taken}
use Rattle.console.proofs.Texts.{more_join}

pub clean_join : (xs ys : List ℕ) → no_line_end xs ≡ true → no_line_end ys ≡ true → no_line_end (xs ++ ys) ≡ true
clean_join [] ys h k = k
clean_join (x ∷ xs) ys h k = let (p, q) = and_parts (not (eqb x 10)) (no_line_end xs) h in and_from _ _ p (clean_join xs ys q k)

-- what a loop over the bytes keeps
pub record Going (N : ℕ) (s : Seen) (bs : List ℕ) (i : ℕ) (now : Seen) : Type 0 where
  pub read : now ≡ more N s (take i bs)
  pub clean : no_line_end (take i bs) ≡ true

pub going_on : (N : ℕ) (s : Seen) (bs : List ℕ) (i : ℕ) (now next : Seen) → Going N s bs i now → i < length bs → (get_or bs i 0 ≡ 10 → ⊥) → next ≡ more N now (get_or bs i 0 ∷ []) → Going N s bs (i + 1) next
going_on N s bs i now next g h d e =
    let b : List ℕ = get_or bs i 0 ∷ [] in
    let front = take_more bs i 0 h in
    record {
      read = e ∙ ap (λ x. more N x b) g.read ∙ sym (more_join N s (take i bs) b) ∙ ap (more N s) (sym front);
      clean = ap no_line_end front ∙ clean_join (take i bs) b g.clean (and_from _ _ (not_from_false (eqb (get_or bs i 0) 10) (ne_eqb (get_or bs i 0) 10 d)) refl);
    }

pub going_end : (N : ℕ) (s : Seen) (bs : List ℕ) (i : ℕ) (now : Seen) → Going N s bs i now → length bs ≤ i → Taken N s bs now None
going_end N s bs i now g h = let all = take_all i bs h in (g.read ∙ ap (more N s) all, ap no_line_end (sym all) ∙ g.clean)

pub going_found : (N : ℕ) (s : Seen) (bs : List ℕ) (i : ℕ) (now : Seen) → Going N s bs i now → i < length bs → get_or bs i 0 ≡ 10 → Taken N s bs now (Some (i + 1))
going_found N s bs i now g h e = (
  take i bs,
  drop (i + 1) bs,
  sym (take-append-drop i bs) ∙ ap (λ l. take i bs ++ l) (drop_more bs i 0 h ∙ ap (λ b. b ∷ drop (i + 1) bs) e),
  g.clean,
  omega (arith, length-take i bs),
  g.read,
)
