-- One token in the lines of values, and behind the word 'rules'.
use Rattle.std.proofs.Common.{◌≡◌, ℕ, ◌+◌, ◌%◌, ◌<◌, ◌≤◌, true, ◌&&◌, eqb, ltb, leb, List, [], ◌∷◌, ◌++◌, map, length, Some, None, Ok, Err, codes, Option, Result, sym, refl, ap, ◌∙◌, subst, inl, inr, ⊎_elim, append_assoc, append-nil, arith}
use Rattle.std.proofs.lemmas.Slice.Eq.{bytes_eq-Decides}
use Rattle.std.proofs.lemmas.List.{length-map, length_push, map_push}
use Rattle.std.proofs.lemmas.Bool.{false≢true, cond_both, and_parts, or_cases, eqb-true, leb-true, ltb-true, ltb-false}
use Rattle.terms.specs.Signature.{Sig, op_of}
use Rattle.reading.specs.declared.token.At.{At}
use Rattle.reading.specs.declared.token.Mark.{Mark}
use Rattle.reading.specs.declared.token.Mark.TheVariants.{Opening, Closing, Comma, Equals, Dash, Blank, LineEnd}
use Rattle.reading.specs.Tokens.{Tok, a_name, a_number, an_instrument, a_variable, a_mark, a_stray, single, mark_byte}
use Rattle.reading.specs.Numbers.{numbered}
use Rattle.reading.specs.Laws.{AllDigits}
use Rattle.reading.proofs.Digits.{numbers}
use Rattle.reading.proofs.Lines.{heading_tokens, blanked, spaced, spaced_push, spaced_blank, spaced_end}
use Rattle.reading.specs.declared.fault.SheetFault.{SheetFault}
use Rattle.reading.specs.Reading.{chain}
use Rattle.sheet_reading.specs.Values.{Value, Grid, range_of, ValueIn, LineIn}
use Rattle.sheet_reading.specs.Sheet.{limits}
use Rattle.sheet_reading.specs.Sides.{on_left}
use Rattle.sheet_reading.specs.Reading.{is_mark, is_word, wants_value, has_value, has_word, from_least, value_of, rules_may_come, on_line, behind_value, behind_word}
use Rattle.sheet_reading.specs.Laws.{Behind}
use Rattle.reading.proofs.Tokens.{Lexed}
use Rattle.sheet_reading.proofs.Stands.{value_tok, grid_tokens, front_tokens, the_word, grid_append, before_side, stand_tokens}
use Rattle.sheet_reading.proofs.Causes.{Cause, not_here_cause}
use Rattle.sheet_reading.proofs.SideTelling.{starts}
use Rattle.sheet_reading.proofs.Ranges.{Small, range_small, part_push, part_full, grid_joined}
use Rattle.sheet_reading.proofs.Goods.{Valued, Good, Said}

-- tokens by their kind

marked : (m : Mark) → single (mark_byte m) ≡ a_mark m
marked Opening = refl
marked Closing = refl
marked Comma = refl
marked Equals = refl
marked Dash = refl
marked Blank = refl
marked LineEnd = refl

pub mark_is : (m : Mark) (k : Tok) → is_mark m k ≡ true → k ≡ a_mark m
mark_is m (a_name s) e = absurd (false≢true e)
mark_is m (a_number s) e = absurd (false≢true e)
mark_is m (an_instrument s) e = absurd (false≢true e)
mark_is m (a_variable x) e = absurd (false≢true e)
mark_is m (a_mark n) e = sym (marked n) ∙ ap single (sym (eqb-true (mark_byte m) (mark_byte n) e)) ∙ marked m
mark_is m (a_stray b) e = absurd (false≢true e)

word_is : (w : List ℕ) (k : Tok) → is_word w k ≡ true → k ≡ a_name w
word_is w (a_name s) e = ap a_name ((bytes_eq-Decides s w).0 e)
word_is w (a_number s) e = absurd (false≢true e)
word_is w (an_instrument s) e = absurd (false≢true e)
word_is w (a_variable x) e = absurd (false≢true e)
word_is w (a_mark n) e = absurd (false≢true e)
word_is w (a_stray b) e = absurd (false≢true e)

module _ (k : Tok) (at : At) where
  abbrev ValueSaid : Option (ℕ × ℕ) → Result Value SheetFault → Type 0
  ValueSaid r (Ok v) = ValueIn r v × (value_tok v ≡ k)
  ValueSaid r (Err f) = (before : List Tok) → Behind before at → Cause before (Some k) f

number_said : (r : ℕ × ℕ) (s : List ℕ) (at : At) (o : Option ℕ) → numbered r.1 s ≡ o → r.1 ≤ 100 → AllDigits s → ValueSaid (a_number s) at (Some r) (from_least r.0 o at)
number_said r s at None e h l = λ before p. (p, (s, inl refl))
number_said r s at (Some n) e h l =
    let (q, m) = (numbers r.1 s n (omega arith) l).0 e in
    cond_both (leb r.0 n) _ _ (ValueSaid (a_number s) at (Some r)) (λ z. ((leb-true r.0 n z, m), ap a_number (sym q))) (λ _ before p. (p, (s, inl refl)))

value_said : (r : Option (ℕ × ℕ)) (k : Tok) (at : At) → Small r → Lexed k → ValueSaid k at r (value_of r k at)
value_said None k at h l = cond_both (is_mark Dash k) _ _ (ValueSaid k at None) (λ e. (tt, sym (mark_is Dash k e))) (λ _ before p. not_here_cause before at p k)
value_said (Some r) (a_name s) at h l = λ before p. p
value_said (Some r) (a_number s) at h l = number_said r s at (numbered r.1 s) refl h l
value_said (Some r) (an_instrument s) at h l = λ before p. not_here_cause before at p (an_instrument s)
value_said (Some r) (a_variable x) at h l = λ before p. p
value_said (Some r) (a_mark m) at h l = λ before p. p
value_said (Some r) (a_stray b) at h l = λ before p. not_here_cause before at p (a_stray b)

module _ (sig : Sig) (grid : Grid) (at : At) (k : Tok) where
  abbrev front : List Tok
  front = front_tokens sig grid

  -- the word 'rules'
  said_word : (vs : List Value) → Valued sig grid vs → rules_may_come grid vs ≡ true → is_word (codes "rules") k ≡ true → Said (wants_value sig grid vs) k (Ok (has_word sig grid))
  said_word [] g e w = (
    (
      record {
        declared = g.operators.declared;
        some_operators = g.some;
        one_or_two = ⊎_elim (λ q. inl (eqb-true (length grid) 4 q)) (λ q. inr (eqb-true (length grid) 8 q)) (or_cases (eqb (length grid) 4) (eqb (length grid) 8) e);
        in_range = g.in_range;
        lawful = tt;
      },
      record { few_operators = g.operators.few; few_rules = omega arith; small_sides = tt },
    ),
    ap (λ l. l ++ (the_word ∷ [])) (sym (append-nil front)) ∙ ap (λ x. (front ++ []) ++ (x ∷ [])) (sym (word_is (codes "rules") k w)),
  )
  said_word (v ∷ vs) g e w = absurd (false≢true e)

  one_value : (vs : List Value) → Valued sig grid vs → length vs < length sig → length grid < 8 → (r : Result Value SheetFault) → ValueSaid k at (range_of (length grid) (op_of sig (length vs)).arity) r
      → Behind (stand_tokens (wants_value sig grid vs)) at → Said (wants_value sig grid vs) k (chain r (λ v. Ok (has_value sig grid (vs ++ (v ∷ [])))))
  one_value vs g l h (Err f) z p = z _ p
  one_value vs g l h (Ok v) z p = (
    (record { operators = g.operators; some = g.some; in_range = g.in_range; so_far = part_push (length grid) sig vs v g.so_far l z.0; at_most = omega arith; not_last = λ _. h }, omega (arith, length_push vs v)),
    ap (λ l. front ++ spaced l) (map_push value_tok vs v) ∙ ap (λ l. front ++ l) (spaced_push (map value_tok vs) (value_tok v))
        ∙ sym (append_assoc front (blanked (map value_tok vs)) (value_tok v ∷ [])) ∙ ap (λ x. (front ++ blanked (map value_tok vs)) ++ (x ∷ [])) z.1,
  )

  pub said_line : (vs : List Value) → Lexed k → Good (wants_value sig grid vs) → Behind (stand_tokens (wants_value sig grid vs)) at → Said (wants_value sig grid vs) k (on_line sig grid vs k at)
  said_line vs l g p = cond_both (rules_may_come grid vs && is_word (codes "rules") k) _ _ (Said (wants_value sig grid vs) k)
      (λ e. let (a, b) = and_parts (rules_may_come grid vs) _ e in said_word vs g.0 a b)
      (λ _. cond_both (ltb (length grid) 8) _ _ (Said (wants_value sig grid vs) k)
      (λ e. one_value vs g.0 g.1 (ltb-true (length grid) 8 e) _ (value_said _ k at (range_small (length grid % 4) (op_of sig (length vs)).arity) l) p)
      (λ _. not_here_cause _ at p k))

  -- behind a value

  said_blank : (vs : List Value) → Good (has_value sig grid vs) → length vs < length sig → k ≡ a_mark Blank → Said (has_value sig grid vs) k (Ok (wants_value sig grid vs))
  said_blank vs g l e = (
    (g.0, l),
    ap (λ l. front ++ l) (spaced_blank (map value_tok vs) (omega (arith, g.1, length-map vs value_tok)))
        ∙ sym (append_assoc front (spaced (map value_tok vs)) (a_mark Blank ∷ [])) ∙ ap (λ x. (front ++ spaced (map value_tok vs)) ++ (x ∷ [])) (sym e),
  )

  said_line_end : (vs : List Value) → Good (has_value sig grid vs) → length sig ≤ length vs → k ≡ a_mark LineEnd → Said (has_value sig grid vs) k (Ok (wants_value sig (grid ++ (vs ∷ [])) []))
  said_line_end vs g l e =
      let z = g.0 in
      let full : LineIn (0 + length grid) sig vs = subst (λ x. LineIn x sig vs) (omega arith) (part_full (length grid) sig vs z.so_far l) in
      let few = z.not_last g.1 in (
        (record { operators = z.operators; some = z.some; in_range = grid_joined 0 sig grid (vs ∷ []) z.in_range (full, tt); so_far = tt; at_most = omega (arith, length_push grid vs); not_last = λ q. absurd (omega arith) }, z.some),
        ap (λ l. (heading_tokens sig ++ l) ++ []) (grid_append grid (vs ∷ []))
            ∙ ap (λ l. (heading_tokens sig ++ (grid_tokens grid ++ (l ++ []))) ++ []) (spaced_end (map value_tok vs))
            ∙ ap (λ x. (heading_tokens sig ++ (grid_tokens grid ++ ((spaced (map value_tok vs) ++ (x ∷ [])) ++ []))) ++ []) (sym e)
            ∙ simp (append_assoc, append-nil),
      )

  pub said_behind_value : (vs : List Value) → Good (has_value sig grid vs) → Behind (stand_tokens (has_value sig grid vs)) at → Said (has_value sig grid vs) k (behind_value sig grid vs k at)
  said_behind_value vs g p =
      cond_both (ltb (length vs) (length sig)) _ _ (Said (has_value sig grid vs) k)
      (λ a. cond_both (is_mark Blank k) _ _ (Said (has_value sig grid vs) k) (λ b. said_blank vs g (ltb-true (length vs) (length sig) a) (mark_is Blank k b)) (λ _. not_here_cause _ at p k))
      (λ a. cond_both (is_mark LineEnd k) _ _ (Said (has_value sig grid vs) k) (λ b. said_line_end vs g (ltb-false (length vs) (length sig) a) (mark_is LineEnd k b)) (λ _. not_here_cause _ at p k))

  -- behind the word

  pub said_behind_word : Good (has_word sig grid) → Behind (stand_tokens (has_word sig grid)) at → Said (has_word sig grid) k (behind_word sig grid k at)
  said_behind_word g p = cond_both (is_mark LineEnd k) _ _ (Said (has_word sig grid) k)
      (λ e. (
        record {
          shaped = g.0;
          within = g.1;
          hand = tt;
          side = starts sig limits (before_side sig grid [] on_left) on_left;
          last = λ _. (refl, refl);
        },
        append-nil _ ∙ append-nil _ ∙ ap (λ x. front ++ (the_word ∷ (x ∷ []))) (sym (mark_is LineEnd k e)) ∙ sym (append_assoc front (the_word ∷ []) (k ∷ [])),
      ))
      (λ _. not_here_cause _ at p k)
