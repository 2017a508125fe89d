-- Where a number may stand.
use Rattle.std.proofs.Common.{◌≡◌, ℕ, ◌%◌, ◌<◌, ◌≤◌, true, false, ◌&&◌, ltb, List, [], ◌∷◌, ◌++◌, length, Some, None, Ok, codes, decimal, Option, Result, Bool, sym, refl, ap, ◌∙◌, subst, ⊎_elim, arith}
use Rattle.std.proofs.lemmas.Bool.{false≢true, both_ways, cond_both, and_parts, and_from, cases_Bool, ltb-true, lt-ltb}
use Rattle.terms.specs.Signature.{Sig, op_of}
use Rattle.terms.specs.Rule.{Rule}
use Rattle.reading.specs.declared.token.At.{At}
use Rattle.reading.specs.declared.heading.Stage.TheVariants.{WantsName, HasName, WantsCount, HasCount, Done}
use Rattle.reading.specs.declared.fault.TextFault.{TextFault}
use Rattle.reading.specs.declared.fault.TextFault.TheVariants.{BadNumber, Unexpected, WrongArity}
use Rattle.reading.specs.declared.fault.SheetFault.{SheetFault}
use Rattle.reading.specs.declared.fault.SheetFault.TheVariants.{Text}
use Rattle.reading.specs.Tokens.{Tok, a_number, whole, lines}
use Rattle.reading.specs.Numbers.{plain, numbered}
use Rattle.reading.specs.Reading.{top, within, State, wants, opens, has, fault_of, chain}
use Rattle.reading.specs.Heading.{Head, counted}
use Rattle.reading.proofs.Digits.{numbered_decimal, all_digits_decimal}
use Rattle.reading.proofs.Equal.{not_both}
use Rattle.reading.proofs.Tokens.{Lexed}
use Rattle.sheet_reading.specs.Values.{Grid, Value, range_of, ValueIn}
use Rattle.sheet_reading.specs.Sheet.{Limits, limits}
use Rattle.sheet_reading.specs.Sides.{Hand, on_left, on_right, side_step}
use Rattle.sheet_reading.specs.Reading.{is_word, Stand, in_heading, wants_value, has_value, has_word, in_rule, headed, value_of, rules_may_come, sheet_step}
use Rattle.sheet_reading.specs.Laws.{count, rank, Begins}
use Rattle.sheet_reading.proofs.Ranges.{Small, range_small, least, least_in}
use Rattle.sheet_reading.proofs.Stands.{stand_tokens}
use Rattle.sheet_reading.proofs.Goods.{Good, Said}
use Rattle.sheet_reading.proofs.Telling.{said}
use Rattle.sheet_reading.proofs.Back.{one_back}
use Rattle.sheet_reading.proofs.Completing.{begun, begins}
use Rattle.sheet_reading.proofs.Ranking.{Ranks, ranks_on, ranks_cond, ranks_counted, ranks_least, by_stand}

abbrev ranged : Option (ℕ × ℕ) → Bool
ranged None = false
ranged (Some r) = true

abbrev pub takes_number : Stand → Bool
takes_number (in_heading (sig, WantsName)) = false
takes_number (in_heading (sig, HasName)) = false
takes_number (in_heading (sig, WantsCount f)) = true
takes_number (in_heading (sig, HasCount f)) = false
takes_number (in_heading (sig, Done)) = false
takes_number (wants_value sig grid vs) = ltb (length grid) 8 && ranged (range_of (length grid) (op_of sig (length vs)).arity)
takes_number (has_value sig grid vs) = false
takes_number (has_word sig grid) = false
takes_number (in_rule sig grid rules d s) = false

-- a number that is read stands where one may

module _ (n : Limits) (at : At) (t : List ℕ) (u : Stand) where
  value_taken : (r : Option (ℕ × ℕ)) (f : Value → Result Stand SheetFault) → chain (value_of r (a_number t) at) f ≡ Ok u → ranged r ≡ true
  value_taken None f e = not_both (sym e)
  value_taken (Some r) f e = refl

  rule_taken : (sig : Sig) (grid : Grid) (rules : List Rule) (d : Hand) (s : State) → sheet_step n (in_rule sig grid rules d s) at (a_number t) ≡ Ok u → ⊥
  rule_taken sig grid rules d (wants c) e = not_both (sym e)
  rule_taken sig grid rules d (opens f a i c) e = not_both (sym e)
  rule_taken sig grid rules on_left (has b m top) e = not_both (sym e)
  rule_taken sig grid rules (on_right l) (has b m top) e = not_both (sym e)
  rule_taken sig grid rules d (has b m (within f a ts i c)) e = not_both (sym e)

  pub number_taken : (s : Stand) → sheet_step n s at (a_number t) ≡ Ok u → takes_number s ≡ true
  number_taken (in_heading (sig, WantsName)) e = not_both (sym e)
  number_taken (in_heading (sig, HasName)) e = not_both (sym e)
  number_taken (in_heading (sig, WantsCount f)) e = refl
  number_taken (in_heading (sig, HasCount f)) e = not_both (sym e)
  number_taken (in_heading (sig, Done)) e = not_both (sym e)
  number_taken (wants_value sig grid vs) e =
      cond_both (rules_may_come grid vs && is_word (codes "rules") (a_number t)) _ _ (λ r. r ≡ Ok u → takes_number (wants_value sig grid vs) ≡ true)
      (λ q e. absurd (false≢true (and_parts (rules_may_come grid vs) false q).1))
      (λ _. cond_both (ltb (length grid) 8) _ _ (λ r. r ≡ Ok u → takes_number (wants_value sig grid vs) ≡ true)
      (λ q e. and_from (ltb (length grid) 8) _ q (value_taken _ _ e))
      (λ _ e. not_both (sym e)))
      e
  number_taken (has_value sig grid vs) e = cond_both (ltb (length vs) (length sig)) _ _ (λ r. r ≡ Ok u → false ≡ true) (λ _ e. not_both (sym e)) (λ _ e. not_both (sym e)) e
  number_taken (has_word sig grid) e = not_both (sym e)
  number_taken (in_rule sig grid rules d s) e = absurd (rule_taken sig grid rules d s e)

-- where one may stand it is read, or out of range

module _ (at : At) (t : List ℕ) where
  range_value : (r : Option (ℕ × ℕ)) → ranged r ≡ true → Ranks (λ n. n ≤ 2) (value_of r (a_number t) at)
  range_value None h = absurd (false≢true h)
  range_value (Some r) h = ranks_least 2 (omega arith) r.0 (numbered r.1 t) at

  pub range_rank : (s : Stand) → takes_number s ≡ true → Ranks (λ n. n ≤ 2) (sheet_step limits s at (a_number t))
  range_rank (in_heading (sig, WantsName)) h = absurd (false≢true h)
  range_rank (in_heading (sig, HasName)) h = absurd (false≢true h)
  range_rank (in_heading (sig, WantsCount f)) h = ranks_on (λ n. n ≤ 2) (counted (numbered 3 t) sig f at) _ (ranks_counted 2 (omega arith) (numbered 3 t) sig f at) (λ u. tt)
  range_rank (in_heading (sig, HasCount f)) h = absurd (false≢true h)
  range_rank (in_heading (sig, Done)) h = absurd (false≢true h)
  range_rank (wants_value sig grid vs) h =
      ranks_cond (λ n. n ≤ 2) (rules_may_come grid vs && is_word (codes "rules") (a_number t)) _ _ tt
      (cond_both (ltb (length grid) 8) _ _ (Ranks (λ n. n ≤ 2))
      (λ q. ranks_on (λ n. n ≤ 2) (value_of (range_of (length grid) (op_of sig (length vs)).arity) (a_number t) at) _ (range_value _ (and_parts (ltb (length grid) 8) _ h).1) (λ u. tt))
      (λ q. absurd (both_ways (ltb (length grid) 8) q (and_parts (ltb (length grid) 8) _ h).0)))
  range_rank (has_value sig grid vs) h = absurd (false≢true h)
  range_rank (has_word sig grid) h = absurd (false≢true h)
  range_rank (in_rule sig grid rules d s) h = absurd (false≢true h)

  -- elsewhere a number without a needless zero is not refused as a number

  abbrev Other : ℕ → Type 0
  Other n = n ≡ 2 → ⊥

  module _ (well : plain t ≡ true) where
    plain_rank : (f : TextFault) → Other (rank (Text f)) → Other (rank (Text (fault_of (a_number t) at f)))
    plain_rank f h = cond_both (plain t) f (BadNumber at) (λ x. Other (rank (Text x))) (λ _. h) (λ e. absurd (both_ways (plain t) e well))

    no_range : (r : Option (ℕ × ℕ)) → ranged r ≡ false → Ranks Other (value_of r (a_number t) at)
    no_range None h = plain_rank (Unexpected at) (λ e. omega arith)
    no_range (Some r) h = absurd (false≢true (sym h))

    plain_side : (sig : Sig) (rules : ℕ) (d : Hand) (s : State) → Ranks Other (side_step limits sig rules d s at (a_number t))
    plain_side sig rules d (wants c) = plain_rank (Unexpected at) (λ e. omega arith)
    plain_side sig rules d (opens f a n c) = plain_rank (WrongArity a) (λ e. omega arith)
    plain_side sig rules d (has b m c) = plain_rank (Unexpected at) (λ e. omega arith)

    out_of_range : (s : Stand) (sig : Sig) (grid : Grid) (vs : List Value) → takes_number s ≡ false → s ≡ wants_value sig grid vs → length grid < 8 → ranged (range_of (length grid) (op_of sig (length vs)).arity) ≡ false
    out_of_range s sig grid vs h e l =
        let q : takes_number (wants_value sig grid vs) ≡ false = sym (ap takes_number e) ∙ h in
        ⊎_elim (λ p. absurd (both_ways _ q (and_from (ltb (length grid) 8) _ (lt-ltb (length grid) 8 l) p))) (λ p. p) (cases_Bool (ranged (range_of (length grid) (op_of sig (length vs)).arity)))

    pub number_elsewhere : (s : Stand) → takes_number s ≡ false → Ranks Other (sheet_step limits s at (a_number t))
    number_elsewhere s h = by_stand Other at (a_number t) s (record {
      not_here = plain_rank (Unexpected at) (λ e. omega arith);
      on_name = λ sig e. plain_rank (Unexpected at) (λ e. omega arith);
      on_count = λ sig f e. absurd (both_ways (takes_number s) h (ap takes_number e));
      on_value = λ sig grid vs e l. no_range _ (out_of_range s sig grid vs h e l);
      on_side = λ sig grid rules d u e. plain_side sig (length rules) d u;
    })

-- some number may stand there

-- the place behind some tokens
abbrev pub place_of : List Tok → At
place_of ks = record { place = length (whole ks); line = count lines ks }

-- a token that is read is one more of a sheet's
pub accepted_begins : (s u : Stand) (k : Tok) → Good s → Lexed k → sheet_step limits s (place_of (stand_tokens s)) k ≡ Ok u → Begins (stand_tokens s ++ (k ∷ []))
accepted_begins s u k g l e =
    let (a, b) = subst (Said s k) e (said s (place_of (stand_tokens s)) k l g refl) in
    subst Begins b (begins u (begun u a))

some_value : (sig : Sig) (grid : Grid) (vs : List Value) → Good (wants_value sig grid vs) → length grid < 8 → (r : Option (ℕ × ℕ)) → range_of (length grid) (op_of sig (length vs)).arity ≡ r → ranged r ≡ true
    → (t : List ℕ) × Begins (stand_tokens (wants_value sig grid vs) ++ (a_number t ∷ []))
some_value sig grid vs g l None e h = absurd (false≢true h)
some_value sig grid vs g l (Some r) e h =
    let arity : ℕ = (op_of sig (length vs)).arity in
    let small : r.1 ≤ 100 = subst Small e (range_small (length grid % 4) arity) in
    let inside : ValueIn (Some r) (Some r.0) = subst (λ o. ValueIn o (least o)) e (least_in (length grid % 4) arity) in
    let there : ValueIn (range_of (length grid) arity) (Some r.0) = subst (λ o. ValueIn o (Some r.0)) (sym e) inside in
    (decimal r.0, accepted_begins (wants_value sig grid vs) (has_value sig grid (vs ++ (Some r.0 ∷ []))) (a_number (decimal r.0)) g (all_digits_decimal r.0 (omega (arith, inside.1))) (one_back limits sig grid l vs (Some r.0) _ there))

pub may_number : (s : Stand) → Good s → takes_number s ≡ true → (t : List ℕ) × Begins (stand_tokens s ++ (a_number t ∷ []))
may_number (in_heading (sig, WantsName)) g h = absurd (false≢true h)
may_number (in_heading (sig, HasName)) g h = absurd (false≢true h)
may_number (in_heading (sig, WantsCount f)) g h =
    (decimal 0, accepted_begins (in_heading (sig, WantsCount f)) _ (a_number (decimal 0)) g (all_digits_decimal 0 (omega arith)) (ap (λ (o : Option ℕ). chain (counted o sig f (place_of (stand_tokens (in_heading (sig, WantsCount f))))) (λ (x : Head). Ok (headed x))) (numbered_decimal 3 0 (omega arith) (omega arith))))
may_number (in_heading (sig, HasCount f)) g h = absurd (false≢true h)
may_number (in_heading (sig, Done)) g h = absurd (false≢true h)
may_number (wants_value sig grid vs) g h =
    let (a, b) = and_parts (ltb (length grid) 8) _ h in
    some_value sig grid vs g (ltb-true (length grid) 8 a) _ refl b
may_number (has_value sig grid vs) g h = absurd (false≢true h)
may_number (has_word sig grid) g h = absurd (false≢true h)
may_number (in_rule sig grid rules d s) g h = absurd (false≢true h)
