-- Where the reading of a heading stands: a token that is accepted is one more of the tokens read, and one that is refused is refused for a reason.
use Rattle.std.proofs.Common.{◌≡◌, ℕ, suc, ◌<◌, ◌≤◌, true, ltb, leb, List, [], ◌∷◌, ◌++◌, map, length, take, set, Some, None, Ok, Err, decimal, Option, sym, refl, ap, ◌∙◌, append_assoc, append-nil, arith, take-suc-set}
use Rattle.std.proofs.lemmas.List.{length-map, length_push, length-set, length-take-le, map_push, map-set, get_or-map, set-get_or, take_all}
use Rattle.std.proofs.lemmas.Bool.{cond_both, leb-true, leb-false, ltb-true, ltb-false}
use Rattle.terms.specs.Signature.{Op, Sig, op_of, spelt, Declared, found}
use Rattle.terms.proofs.Signatures.{declared_push, declared_again}
use Rattle.reading.specs.declared.token.At.{At}
use Rattle.reading.specs.declared.token.Mark.{Mark}
use Rattle.reading.specs.declared.token.Mark.TheVariants.{Opening, Closing, Comma, Equals, Dash, Blank, LineEnd}
use Rattle.reading.specs.declared.heading.Stage.TheVariants.{WantsName, HasName, WantsCount, HasCount, Done}
use Rattle.reading.specs.Tokens.{Tok, a_name, a_number, an_instrument, a_variable, a_mark, a_stray}
use Rattle.reading.specs.Numbers.{numbered}
use Rattle.reading.specs.Heading.{Head, Outcome, named_once, wants_name, has_name_mark, has_name, counted, wants_count, has_count_mark, has_count, head_step}
use Rattle.reading.specs.Laws.{AllDigits}
use Rattle.reading.proofs.Digits.{numbers}
use Rattle.reading.proofs.Lines.{blanked, spaced, spaced_push, spaced_blank, spaced_end, line, name_tok, count_tok, heading_tokens}
use Rattle.reading.proofs.Tokens.{Lexed}
use Rattle.reading.specs.declared.fault.SheetFault.{SheetFault}
use Rattle.reading.specs.declared.fault.SheetFault.TheVariants.{Text, Repeated}
use Rattle.reading.specs.declared.fault.TextFault.TheVariants.{Unexpected, PastLimit, BadNumber}
use Rattle.reading.specs.Reading.{fault_of}

-- the tokens read so far
abbrev pub head_tokens : Head → List Tok
head_tokens (sig, WantsName) = blanked (map name_tok sig)
head_tokens (sig, HasName) = spaced (map name_tok sig)
head_tokens (sig, WantsCount f) = line (map name_tok sig) ++ blanked (map count_tok (take f sig))
head_tokens (sig, HasCount f) = line (map name_tok sig) ++ spaced (map count_tok (take (suc f) sig))
head_tokens (sig, Done) = heading_tokens sig

-- why a token is refused, and with which fault
pub data HeadReason (most : ℕ) (h : Head) (k : Tok) (at : At) (f : SheetFault) : Type 0 where
  not_allowed : f ≡ Text (fault_of k at (Unexpected at)) → HeadReason most h k at f
  many_names : (sig : Sig) (s : List ℕ) → h ≡ (sig, WantsName) → k ≡ a_name s → most ≤ length sig → f ≡ Text (PastLimit at) → HeadReason most h k at f
  named_twice : (sig : Sig) (s : List ℕ) (i : ℕ) → h ≡ (sig, WantsName) → k ≡ a_name s → found sig s ≡ Some i → f ≡ Repeated at → HeadReason most h k at f
  bad_count : (s : List ℕ) → k ≡ a_number s → f ≡ Text (BadNumber at) → HeadReason most h k at f

module _ (most : ℕ) where
  -- the operators so far
  pub record Operators (sig : Sig) : Type 0 where
    pub declared : Declared sig
    pub few : length sig ≤ most

  abbrev pub HeadGood : Head → Type 0
  HeadGood (sig, WantsName) = Operators sig
  HeadGood (sig, HasName) = Operators sig × (1 ≤ length sig)
  HeadGood (sig, WantsCount f) = Operators sig × (f < length sig)
  HeadGood (sig, HasCount f) = Operators sig × (f < length sig)
  HeadGood (sig, Done) = Operators sig × (1 ≤ length sig)

  abbrev pub HeadSaid : Head → Tok → At → Outcome → Type 0
  HeadSaid h k at (Ok g) = HeadGood g × (head_tokens g ≡ head_tokens h ++ (k ∷ []))
  HeadSaid h k at (Err f) = HeadReason most h k at f

  module _ (sig : Sig) (good : Operators sig) (at : At) where
    abbrev new : List ℕ → Op
    new s = record { name = s; arity = 0 }

    once : (s : List ℕ) (r : Option ℕ) → found sig s ≡ r → spelt s ≡ true → length sig < most → HeadSaid (sig, WantsName) (a_name s) at (named_once r sig s at)
    once s (Some f) e l h = named_twice sig s f refl refl e refl
    once s None e l h =
        let d = good.declared in
        let more : Declared (sig ++ (new s ∷ [])) = declared_push sig s 0 d l e (omega arith) in
        let many = length_push sig (new s) in
        ((record { declared = more; few = omega arith }, omega arith), ap spaced (map_push name_tok sig (new s)) ∙ spaced_push (map name_tok sig) (a_name s))

    said_wants_name : (k : Tok) → Lexed k → HeadSaid (sig, WantsName) k at (wants_name most k sig at)
    said_wants_name (a_name s) l = cond_both (leb most (length sig)) _ _ (HeadSaid (sig, WantsName) (a_name s) at)
        (λ e. many_names sig s refl refl (leb-true most (length sig) e) refl)
        (λ e. once s (found sig s) refl l (leb-false most (length sig) e))
    said_wants_name (a_number s) l = not_allowed refl
    said_wants_name (an_instrument s) l = not_allowed refl
    said_wants_name (a_variable x) l = not_allowed refl
    said_wants_name (a_mark m) l = not_allowed refl
    said_wants_name (a_stray b) l = not_allowed refl

    said_has_name_mark : (m : Mark) → 1 ≤ length sig → HeadSaid (sig, HasName) (a_mark m) at (has_name_mark m sig at)
    said_has_name_mark Opening h = not_allowed refl
    said_has_name_mark Closing h = not_allowed refl
    said_has_name_mark Comma h = not_allowed refl
    said_has_name_mark Equals h = not_allowed refl
    said_has_name_mark Dash h = not_allowed refl
    said_has_name_mark Blank h = (good, spaced_blank (map name_tok sig) (omega (arith, length-map sig name_tok)))
    said_has_name_mark LineEnd h = ((good, omega arith), append-nil (line (map name_tok sig)) ∙ spaced_end (map name_tok sig))

    said_has_name : (k : Tok) → 1 ≤ length sig → HeadSaid (sig, HasName) k at (has_name k sig at)
    said_has_name (a_name s) h = not_allowed refl
    said_has_name (a_number s) h = not_allowed refl
    said_has_name (an_instrument s) h = not_allowed refl
    said_has_name (a_variable x) h = not_allowed refl
    said_has_name (a_mark m) h = said_has_name_mark m h
    said_has_name (a_stray b) h = not_allowed refl

    module _ (f : ℕ) (h : f < length sig) where
      abbrev with_count : ℕ → Op
      with_count n = record { name = (op_of sig f).name; arity = n }

      same_names : (n : ℕ) → map name_tok (set sig f (with_count n)) ≡ map name_tok sig
      same_names n =
          map-set name_tok sig f (with_count n)
          ∙ ap (set (map name_tok sig) f) (sym (get_or-map name_tok sig f _ (name_tok (with_count n)) h))
          ∙ set-get_or (map name_tok sig) f (name_tok (with_count n))

      count_tokens : (n : ℕ) → head_tokens (set sig f (with_count n), HasCount f) ≡ head_tokens (sig, WantsCount f) ++ (a_number (decimal n) ∷ [])
      count_tokens n =
          (λ i. line (same_names n i) ++ spaced (map count_tok (take-suc-set sig f (with_count n) h i)))
          ∙ ap (λ l. line (map name_tok sig) ++ spaced l) (map_push count_tok (take f sig) (with_count n))
          ∙ ap (λ l. line (map name_tok sig) ++ l) (spaced_push (map count_tok (take f sig)) (a_number (decimal n)))
          ∙ sym (append_assoc (line (map name_tok sig)) (blanked (map count_tok (take f sig))) _)

      said_counted : (s : List ℕ) (r : Option ℕ) → numbered 3 s ≡ r → AllDigits s → HeadSaid (sig, WantsCount f) (a_number s) at (counted r sig f at)
      said_counted s None e l = bad_count s refl refl
      said_counted s (Some n) e l =
          let (q, m) = (numbers 3 s n (omega arith) l).0 e in
          let d = good.declared in
          let long = length-set sig f (with_count n) in
          let again : Declared (set sig f (with_count n)) = declared_again sig f n h m d in
          ((record { declared = again; few = omega (arith, good.few) }, omega arith), count_tokens n ∙ ap (λ x. head_tokens (sig, WantsCount f) ++ (a_number x ∷ [])) (sym q))

      said_wants_count : (k : Tok) → Lexed k → HeadSaid (sig, WantsCount f) k at (wants_count k sig f at)
      said_wants_count (a_name s) l = not_allowed refl
      said_wants_count (a_number s) l = said_counted s (numbered 3 s) refl l
      said_wants_count (an_instrument s) l = not_allowed refl
      said_wants_count (a_variable x) l = not_allowed refl
      said_wants_count (a_mark m) l = not_allowed refl
      said_wants_count (a_stray b) l = not_allowed refl

      some_counts : 1 ≤ length (map count_tok (take (suc f) sig))
      some_counts = omega (arith, length-map (take (suc f) sig) count_tok, length-take-le (suc f) sig (omega arith))

      said_has_count_mark : (m : Mark) → HeadSaid (sig, HasCount f) (a_mark m) at (has_count_mark m sig f at)
      said_has_count_mark Opening = not_allowed refl
      said_has_count_mark Closing = not_allowed refl
      said_has_count_mark Comma = not_allowed refl
      said_has_count_mark Equals = not_allowed refl
      said_has_count_mark Dash = not_allowed refl
      said_has_count_mark Blank = cond_both (ltb (suc f) (length sig)) _ _ (HeadSaid (sig, HasCount f) (a_mark Blank) at)
          (λ e. (
            (good, ltb-true (suc f) (length sig) e),
            ap (λ l. line (map name_tok sig) ++ l) (spaced_blank (map count_tok (take (suc f) sig)) some_counts) ∙ sym (append_assoc (line (map name_tok sig)) (spaced (map count_tok (take (suc f) sig))) _),
          ))
          (λ _. not_allowed refl)
      said_has_count_mark LineEnd = cond_both (ltb (suc f) (length sig)) _ _ (HeadSaid (sig, HasCount f) (a_mark LineEnd) at)
          (λ _. not_allowed refl)
          (λ e. (
            (good, omega arith),
            ap (λ l. line (map name_tok sig) ++ line (map count_tok l)) (sym (take_all (suc f) sig (ltb-false (suc f) (length sig) e)))
                ∙ ap (λ l. line (map name_tok sig) ++ l) (spaced_end (map count_tok (take (suc f) sig))) ∙ sym (append_assoc (line (map name_tok sig)) (spaced (map count_tok (take (suc f) sig))) _),
          ))

      said_has_count : (k : Tok) → HeadSaid (sig, HasCount f) k at (has_count k sig f at)
      said_has_count (a_name s) = not_allowed refl
      said_has_count (a_number s) = not_allowed refl
      said_has_count (an_instrument s) = not_allowed refl
      said_has_count (a_variable x) = not_allowed refl
      said_has_count (a_mark m) = said_has_count_mark m
      said_has_count (a_stray b) = not_allowed refl

  pub said_head : (h : Head) (at : At) (k : Tok) → Lexed k → HeadGood h → HeadSaid h k at (head_step most h at k)
  said_head (sig, WantsName) at k l g = said_wants_name sig g at k l
  said_head (sig, HasName) at k l g = said_has_name sig g.0 at k g.1
  said_head (sig, WantsCount f) at k l g = said_wants_count sig g.0 at f g.1 k l
  said_head (sig, HasCount f) at k l g = said_has_count sig g.0 at f g.1 k
  said_head (sig, Done) at k l g = not_allowed refl

-- before the first name
pub none : (most : ℕ) → Operators most []
none most = record { declared = record { are_spelt = λ f h. absurd (omega arith); are_apart = λ f g h. absurd (omega (arith, h.0)); are_ranked = λ f h. absurd (omega arith) }; few = omega arith }
