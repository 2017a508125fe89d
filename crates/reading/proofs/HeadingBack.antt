-- The heading of a signature is read as that signature.
use Rattle.std.proofs.Common.{◌≡◌, ℕ, suc, ◌<◌, ◌≤◌, List, [], ◌∷◌, ◌++◌, map, length, None, Ok, sym, refl, ap, ◌∙◌, subst, append_assoc, append-nil, arith, length-append, set, Option, Some, cond, bytes_eq}
use Rattle.std.specs.List.{AllByRecursion}
use Rattle.std.proofs.lemmas.List.{length-map, map_push, set_at, get_or_at, get_or_append_left}
use Rattle.std.proofs.lemmas.Bool.{cond-true, cond-false, lt-leb, lt-ltb, le-ltb}
use Rattle.terms.specs.Signature.{Op, Sig, Apart, Declared, found, found_from, op_of}
use Rattle.reading.specs.declared.token.At.{At}
use Rattle.reading.specs.declared.token.Mark.TheVariants.{Blank, LineEnd}
use Rattle.reading.specs.declared.heading.Stage.TheVariants.{WantsName, HasName, WantsCount, HasCount, Done}
use Rattle.reading.specs.Tokens.{Tok, a_mark, past}
use Rattle.reading.proofs.Digits.{numbered_decimal}
use Rattle.reading.proofs.Lines.{follow, line, name_tok, count_tok, heading_tokens, all_ranked}
use Rattle.reading.specs.Heading.{Head, Outcome, named_once, counted, head_step}
use Rattle.reading.specs.Reading.{chain}
use Rattle.reading.proofs.Running.{reach_with, Leads}
use Rattle.terms.proofs.Names.{found_is}
use Rattle.std.specs.Str.{bytes_eq}

-- a count of the operator behind the first ones
count_set : (front rest : Sig) (o : Op) (f n : ℕ) → length front ≡ f
    → set (front ++ (o ∷ rest)) f (record { name = (op_of (front ++ (o ∷ rest)) f).name; arity = n }) ≡ (front ++ (record { name = o.name; arity = n } ∷ [])) ++ rest
count_set front rest o f n e =
    set_at front o rest _ f e
    ∙ ap (λ (p : Op). front ++ (record { name = p.name; arity = n } ∷ rest)) (get_or_at front o rest _ f e)
    ∙ sym (append_assoc front (record { name = o.name; arity = n } ∷ []) rest)

-- an operator without its count
abbrev bare_op : Op → Op
bare_op o = record { name = o.name; arity = 0 }

abbrev bare : Sig → Sig
bare sig = map bare_op sig

bare_found : (i : ℕ) (sig : Sig) (s : List ℕ) → found_from i (bare sig) s ≡ found_from i sig s
bare_found i [] s = refl
bare_found i (o ∷ os) s = ap (cond (bytes_eq o.name s) (Some i)) (bare_found (suc i) os s)

-- a name that stands behind some others is none of them
unfound : (front rest : Sig) (o : Op) (r : Option ℕ) → Apart (front ++ (o ∷ rest)) → found front o.name ≡ r → found front o.name ≡ None
unfound front rest o None a e = e
unfound front rest o (Some f) a e =
    let (h, q) = found_is front o.name f e in
    let many = length-append front (o ∷ rest) in
    let same : (op_of (front ++ (o ∷ rest)) f).name ≡ (op_of (front ++ (o ∷ rest)) (length front)).name =
    ap (λ (p : Op). p.name) (get_or_append_left front (o ∷ rest) _ f h) ∙ q ∙ sym (ap (λ (p : Op). p.name) (get_or_at front o rest _ (length front) refl)) in
    absurd (omega (arith, a f (length front) (omega arith, omega arith, same)))

module _ (most : ℕ) where
  abbrev reach : Head → At → List Tok → Outcome
  reach = reach_with (head_step most)

  -- what follows a token
  abbrev on : At → Tok → List Tok → Outcome → Outcome
  on at k ks r = chain r (λ u. reach u (past at k) ks)

  count_back : (front rest : Sig) (o : Op) (f : ℕ) (at : At) (ks : List Tok) → length front ≡ f → o.arity ≤ 3
      → reach (front ++ (bare_op o ∷ rest), WantsCount f) at (count_tok o ∷ ks) ≡ reach ((front ++ (o ∷ [])) ++ rest, HasCount f) (past at (count_tok o)) ks
  count_back front rest o f at ks e h =
      ap (λ n. on at (count_tok o) ks (counted n (front ++ (bare_op o ∷ rest)) f at)) (numbered_decimal 3 o.arity (omega arith) h)
      ∙ ap (λ s. reach (s, HasCount f) (past at (count_tok o)) ks) (count_set front rest (bare_op o) f o.arity e)

  others_back : (rest front : Sig) (f : ℕ) (at : At) → suc f ≡ length front → AllByRecursion (λ (o : Op). o.arity ≤ 3) rest → reach (front ++ bare rest, HasCount f) at (follow (map count_tok rest)) ≡ Ok (front ++ rest, Done)
  others_back [] front f at e h = ap (on at (a_mark LineEnd) []) (cond-false _ _ _ (le-ltb (suc f) (length (front ++ [])) (omega (arith, length-append front []))))
  others_back (o ∷ rest) front f at e h =
      let ks : List Tok = follow (map count_tok rest) in
      ap (on at (a_mark Blank) (count_tok o ∷ ks)) (cond-true _ _ _ (lt-ltb (suc f) (length (front ++ bare (o ∷ rest))) (omega (arith, length-append front (bare (o ∷ rest))))))
      ∙ count_back front (bare rest) o (suc f) (past at (a_mark Blank)) ks (sym e) h.0
      ∙ others_back rest (front ++ (o ∷ [])) (suc f) _ (omega (arith, length-append front (o ∷ []))) h.1
      ∙ ap (λ s. Ok (s, Done)) (append_assoc front (o ∷ []) rest)

  counts_back : (sig : Sig) → 1 ≤ length sig → AllByRecursion (λ (o : Op). o.arity ≤ 3) sig → Leads (head_step most) (bare sig, WantsCount 0) (line (map count_tok sig)) (sig, Done)
  counts_back [] h r at = absurd (omega arith)
  counts_back (o ∷ rest) h r at = count_back [] (bare rest) o 0 at (follow (map count_tok rest)) refl r.0 ∙ others_back rest (o ∷ []) 0 _ refl r.1

  module _ {sig : Sig} (good : Declared sig) (few : length sig ≤ most) where
    name_back : (front rest : Sig) (o : Op) (at : At) (ks : List Tok) → front ++ (o ∷ rest) ≡ sig
        → reach (bare front, WantsName) at (name_tok o ∷ ks) ≡ reach (bare (front ++ (o ∷ [])), HasName) (past at (name_tok o)) ks
    name_back front rest o at ks e =
        let room : length (bare front) < most = omega (arith, ap length e, length-append front (o ∷ rest), length-map front bare_op) in
        let fresh : found (bare front) o.name ≡ None = bare_found 0 front o.name ∙ unfound front rest o (found front o.name) (subst Apart (sym e) good.are_apart) refl in
        ap (on at (name_tok o) ks) (cond-false _ _ _ (lt-leb most (length (bare front)) room) ∙ ap (λ r. named_once r (bare front) o.name at) fresh)
        ∙ ap (λ s. reach (s, HasName) (past at (name_tok o)) ks) (sym (map_push bare_op front o))

    names_back : (ks : List Tok) → Leads (head_step most) (bare sig, WantsCount 0) ks (sig, Done) → (rest front : Sig) (at : At) → front ++ rest ≡ sig
        → reach (bare front, HasName) at (follow (map name_tok rest) ++ ks) ≡ Ok (sig, Done)
    names_back ks next [] front at e = ap (λ s. reach (bare s, WantsCount 0) (past at (a_mark LineEnd)) ks) (sym (append-nil front) ∙ e) ∙ next (past at (a_mark LineEnd))
    names_back ks next (o ∷ rest) front at e =
        name_back front rest o (past at (a_mark Blank)) (follow (map name_tok rest) ++ ks) e
        ∙ names_back ks next rest (front ++ (o ∷ [])) _ (append_assoc front (o ∷ []) rest ∙ e)

  pub heading_back : (sig : Sig) → Declared sig → 1 ≤ length sig → length sig ≤ most → Leads (head_step most) ([], WantsName) (heading_tokens sig) (sig, Done)
  heading_back [] good some few at = absurd (omega arith)
  heading_back (o ∷ rest) good some few at =
      let ks : List Tok = line (map count_tok (o ∷ rest)) in
      name_back good few [] rest o at (follow (map name_tok rest) ++ ks) refl
      ∙ names_back good few ks (counts_back (o ∷ rest) some (all_ranked good)) rest (o ∷ []) _ refl
