-- The fault that a stand gives applies, and goes first of those that do.
use Rattle.std.proofs.Common.{◌≡◌, ℕ, zero, suc, ◌≤◌, true, ◌⊎◌, List, [], ◌∷◌, ◌++◌, map, length, take, Some, None, Ok, Err, Option, Result, sym, refl, ap, ◌∙◌, subst, inl, inr, ⊎_elim, append_assoc, arith}
use Rattle.std.specs.List.{AllByRecursion}
use Rattle.std.proofs.lemmas.Bool.{cases_Bool}
use Rattle.std.proofs.lemmas.Option.{none-some}
use Rattle.terms.specs.Term.{Term}
use Rattle.terms.specs.Rule.{Rule}
use Rattle.terms.specs.Signature.{Sig, op_of, found}
use Rattle.reading.specs.declared.token.At.{At}
use Rattle.reading.specs.declared.token.Mark.{Mark}
use Rattle.reading.specs.declared.token.Mark.TheVariants.{Opening, Closing, Comma, Equals, Dash, Blank, LineEnd}
use Rattle.reading.specs.declared.heading.Stage.TheVariants.{WantsName, HasName, WantsCount, HasCount, Done}
use Rattle.reading.specs.declared.fault.TextFault.{TextFault}
use Rattle.reading.specs.declared.fault.TextFault.TheVariants.{Stray, BadNumber, Unexpected, Undeclared, WrongArity, PastLimit}
use Rattle.reading.specs.declared.fault.SheetFault.{SheetFault}
use Rattle.reading.specs.declared.fault.SheetFault.TheVariants.{Text, Repeated, Headless, Doubled, Unbound}
use Rattle.reading.specs.Tokens.{Tok, a_name, a_number, an_instrument, a_variable, a_mark, a_stray, origin}
use Rattle.reading.specs.Numbers.{plain, instrument_number}
use Rattle.reading.specs.Reading.{Context, top, within, State, wants, opens, has, unless_some, fault_of, named, with_name, on_has_mark, chain}
use Rattle.reading.specs.Heading.{wants_name}
use Rattle.reading.specs.Laws.{Wrong, IllNumbered}
use Rattle.reading.proofs.Equal.{same_some, not_both}
use Rattle.reading.proofs.Lines.{line, blanked, spaced, name_tok, count_tok}
use Rattle.reading.proofs.Heads.{Operators}
use Rattle.reading.proofs.States.{name_of, stack_tokens, state_tokens}
use Rattle.reading.proofs.Running.{passed, Refuses}
use Rattle.reading.proofs.Tokens.{Lexed}
use Rattle.sheet_reading.specs.Values.{Grid}
use Rattle.sheet_reading.specs.Sheet.{Limits, limits}
use Rattle.sheet_reading.specs.Sides.{Hand, on_left, on_right, within_room, in_text, side_step}
use Rattle.sheet_reading.specs.Reading.{Stand, in_heading, wants_value, has_value, has_word, in_rule, headed, rule_end, sheet_step, sheet_end}
use Rattle.sheet_reading.specs.Laws.{count, symbol, mark, front_of_side, Miscounted, InLeft, OutOfRange, Begins, StuckAt, WholeSheet, InSide, same, numbers, names, symbols, NotAllowed, NotDeclared, NoOperator, Applies, rank}
use Rattle.sheet_reading.proofs.SideFacts.{OfLimit}
use Rattle.sheet_reading.proofs.SideSteps.{goes_named}
use Rattle.sheet_reading.proofs.Stands.{reach, start, before_side, stand_tokens, value_tok, the_word}
use Rattle.sheet_reading.proofs.Goods.{Good, Ruled}
use Rattle.sheet_reading.proofs.Causes.{Cause}
use Rattle.sheet_reading.proofs.Ruling.{Early, place}
use Rattle.sheet_reading.proofs.Telling.{Told, tells}
use Rattle.sheet_reading.proofs.Completing.{left_of, begun_rule, begins, one_more_name}
use Rattle.sheet_reading.proofs.Stuck.{is_behind, goes_on, stuck}
use Rattle.reading.proofs.Miscounting.{Counted}
use Rattle.sheet_reading.proofs.Miscounting.{miscounted_shows}
use Rattle.sheet_reading.proofs.Beyond.{SameHand, line_ended, front_ended, rule_ended, early_in_side, stands_in, early}
use Rattle.sheet_reading.proofs.Ranking.{Ranks, ranks_on, early_rank, rank_most, by_stand, ranks_value, ranks_rule, stray_rank, number_rank, instrument_rank, fault_rank, opens_low, has_low, side_low, dull_rank, symbol_rank, term_name, term_number, term_variable, first_name, name_rank, front_rank, left_rank}
use Rattle.sheet_reading.proofs.Numbering.{place_of, takes_number, number_taken, range_rank, number_elsewhere, may_number}

-- a token that shows a wrong count is refused for that, or before

count_mark : (m : Mark) (at : At) (t : Term) (b : Option At) (c : Context) → Counted (has t b c) (Some (a_mark m)) → Ranks (λ n. n ≤ 3) (in_text (on_has_mark m at t b c))
count_mark Opening at t None c h = absurd (none-some _ h.1)
count_mark Opening at t (Some a) c h = omega arith
count_mark Closing at t b top h = absurd (none-some _ h.1)
count_mark Closing at t b (within f a ts zero c) h = tt
count_mark Closing at t b (within f a ts (suc n) c) h = omega arith
count_mark Comma at t b top h = absurd (none-some _ h.1)
count_mark Comma at t b (within f a ts zero c) h = omega arith
count_mark Comma at t b (within f a ts (suc n) c) h = tt
count_mark Equals at t b c h = absurd (none-some _ h.1)
count_mark Dash at t b c h = absurd (none-some _ h.1)
count_mark Blank at t b c h = absurd (none-some _ h.1)
count_mark LineEnd at t b c h = absurd (none-some _ h.1)

count_rank : (sig : Sig) (rules : ℕ) (d : Hand) (s : State) (at : At) (k : Tok) → Counted s (Some k) → Ranks (λ n. n ≤ 3) (side_step limits sig rules d s at k)
count_rank sig rules d (wants c) at k h = absurd (none-some _ h.1)
count_rank sig rules d (opens f a n c) at k h = opens_low 3 (omega arith) k at f a n c
count_rank sig rules d (has t b c) at (a_name s) h = absurd (none-some _ h.1)
count_rank sig rules d (has t b c) at (a_number s) h = absurd (none-some _ h.1)
count_rank sig rules d (has t b c) at (an_instrument s) h = absurd (none-some _ h.1)
count_rank sig rules d (has t b c) at (a_variable x) h = absurd (none-some _ h.1)
count_rank sig rules d (has t b c) at (a_mark m) h = count_mark m at t b c h
count_rank sig rules d (has t b c) at (a_stray j) h = absurd (none-some _ h.1)

-- the end of the text

count_end : (sig : Sig) (grid : Grid) (rules : List Rule) (d : Hand) (s : State) (at : At) → Counted s None → Ranks (λ n. n ≤ 3) (rule_end sig grid rules d s at)
count_end sig grid rules d (wants c) at h = absurd (none-some _ h.1)
count_end sig grid rules d (opens f a n c) at h = omega arith
count_end sig grid rules d (has t b c) at h = absurd (none-some _ h.1)

module _ (n : ℕ) (four : 4 ≤ n) where
  rule_end_rank : (sig : Sig) (grid : Grid) (rules : List Rule) (d : Hand) (s : State) (at : At) → Ranks (λ i. i ≤ n) (rule_end sig grid rules d s at)
  rule_end_rank sig grid rules on_left (wants top) at = tt
  rule_end_rank sig grid rules on_left (wants (within f a ts i c)) at = four
  rule_end_rank sig grid rules (on_right l) (wants c) at = four
  rule_end_rank sig grid rules d (opens f a i c) at = omega arith
  rule_end_rank sig grid rules d (has t b c) at = four

  end_rank : (s : Stand) (at : At) → Ranks (λ i. i ≤ n) (sheet_end s at)
  end_rank (in_heading h) at = four
  end_rank (wants_value sig grid vs) at = four
  end_rank (has_value sig grid vs) at = four
  end_rank (has_word sig grid) at = four
  end_rank (in_rule sig grid rules d s) at = rule_end_rank sig grid rules d s at

-- an instrument whose digits write a number is not refused as a number
module _ (t : List ℕ) (n : ℕ) (well : instrument_number t ≡ Some n) (at : At) where
  abbrev Other : ℕ → Type 0
  Other i = i ≡ 2 → ⊥

  well_rank : (f : TextFault) → Other (rank (Text f)) → Other (rank (Text (fault_of (an_instrument t) at f)))
  well_rank f h = subst (λ o. Other (rank (Text (unless_some o at f)))) (sym well) h

  well_side : (sig : Sig) (rules : ℕ) (d : Hand) (s : State) → Ranks Other (side_step limits sig rules d s at (an_instrument t))
  well_side sig rules d (wants c) = term_number Other sig rules d c at t (λ q. absurd (none-some _ (sym q ∙ well))) (λ e. omega arith) (λ e. omega arith)
  well_side sig rules d (opens f a i c) = well_rank (WrongArity a) (λ e. omega arith)
  well_side sig rules d (has u m c) = well_rank (Unexpected at) (λ e. omega arith)

  well_instrument : (s : Stand) → Ranks Other (sheet_step limits s at (an_instrument t))
  well_instrument s = by_stand Other at (an_instrument t) s (record {
    not_here = well_rank (Unexpected at) (λ e. omega arith);
    on_name = λ sig e. well_rank (Unexpected at) (λ e. omega arith);
    on_count = λ sig f e. well_rank (Unexpected at) (λ e. omega arith);
    on_value = λ sig grid vs e l. ranks_value Other at (an_instrument t) _ (λ j e. cc) (well_rank (Unexpected at) (λ e. omega arith));
    on_side = λ sig grid rules d u e. well_side sig (length rules) d u;
  })

-- where a term may begin no symbol is refused as not allowed
symbol_allowed : (sig : Sig) (rules : ℕ) (d : Hand) (c : Context) (at : At) (k : Tok) → symbol k ≡ 1 → Ranks (λ n. n ≡ 4 → ⊥) (side_step limits sig rules d (wants c) at k)
symbol_allowed sig rules d c at (a_name s) h = term_name (λ n. n ≡ 4 → ⊥) sig rules d c at s (λ e. omega arith) (λ e. omega arith)
symbol_allowed sig rules d c at (a_number s) h = absurd (omega arith)
symbol_allowed sig rules d c at (an_instrument s) h = term_number (λ n. n ≡ 4 → ⊥) sig rules d c at s (λ _ e. omega arith) (λ e. omega arith) (λ e. omega arith)
symbol_allowed sig rules d c at (a_variable x) h = term_variable (λ n. n ≡ 4 → ⊥) sig rules d c at x (λ e. omega arith) (λ e. omega arith) (λ _ e. omega arith) (λ l _ e. omega arith)
symbol_allowed sig rules d c at (a_mark m) h = absurd (omega arith)
symbol_allowed sig rules d c at (a_stray b) h = absurd (omega arith)

symbol_or_none : (k : Tok) → (symbol k ≡ 0) ⊎ (symbol k ≡ 1)
symbol_or_none (a_name s) = inr refl
symbol_or_none (a_number s) = inl refl
symbol_or_none (an_instrument s) = inr refl
symbol_or_none (a_variable x) = inr refl
symbol_or_none (a_mark m) = inl refl
symbol_or_none (a_stray b) = inl refl

-- a term may begin, or nothing is refused but for its count or as not allowed
begins_or_low : (s : State) → ((c : Context) × (s ≡ wants c)) ⊎ ((sig : Sig) (rules : ℕ) (d : Hand) (at : At) (k : Tok) → Ranks (λ n. n ≤ 4) (side_step limits sig rules d s at k))
begins_or_low (wants c) = inl (c, refl)
begins_or_low (opens f a n c) = inr (λ sig rules d at k. opens_low 4 (omega arith) k at f a n c)
begins_or_low (has t b c) = inr (λ sig rules d at k. has_low 4 (omega arith) k at t b c)

alike_left : (d h : Hand) → SameHand d h → d ≡ on_left → h ≡ on_left
alike_left on_left on_left a e = refl
alike_left on_left (on_right l) a e = absurd a
alike_left (on_right l) on_left a e = refl
alike_left (on_right l) (on_right t) a e = absurd (omega (arith, ap sides e))
  where
    sides : Hand → ℕ
    sides on_left = 0
    sides (on_right t) = 1

-- where a name is read in the first line, a name may stand
module _ (n : Limits) (at : At) (t : List ℕ) (u : Stand) where
  name_taken : (s : Stand) → count (mark LineEnd) (stand_tokens s) ≡ 0 → sheet_step n s at (a_name t) ≡ Ok u → (sig : Sig) × (s ≡ in_heading (sig, WantsName))
  name_taken (in_heading (sig, WantsName)) l e = (sig, refl)
  name_taken (in_heading (sig, HasName)) l e = not_both (sym e)
  name_taken (in_heading (sig, WantsCount f)) l e = absurd (omega (arith, line_ended (map name_tok sig) (blanked (map count_tok (take f sig)))))
  name_taken (in_heading (sig, HasCount f)) l e = absurd (omega (arith, line_ended (map name_tok sig) (spaced (map count_tok (take (suc f) sig)))))
  name_taken (in_heading (sig, Done)) l e = absurd (omega (arith, line_ended (map name_tok sig) (line (map count_tok sig))))
  name_taken (wants_value sig grid vs) l e = absurd (omega (arith, front_ended sig grid (blanked (map value_tok vs))))
  name_taken (has_value sig grid vs) l e = absurd (omega (arith, front_ended sig grid (spaced (map value_tok vs))))
  name_taken (has_word sig grid) l e = absurd (omega (arith, front_ended sig grid (the_word ∷ [])))
  name_taken (in_rule sig grid rules d s) l e = absurd (omega (arith, rule_ended sig grid rules d (state_tokens sig s)))

-- where a symbol is read in a side, a term may begin
no_term_opens : {f : ℕ} {a : At} {n : ℕ} {c k : Context} → opens f a n c ≡ wants k → ⊥
no_term_opens e = cc

no_term_has : {t : Term} {b : Option At} {c k : Context} → has t b c ≡ wants k → ⊥
no_term_has e = cc

symbol_taken : (n : Limits) (sig : Sig) (grid : Grid) (rules : List Rule) (d : Hand) (s : State) (at : At) (k : Tok) (u : Stand) → symbol k ≡ 1 → sheet_step n (in_rule sig grid rules d s) at k ≡ Ok u → (c : Context) × (s ≡ wants c)
symbol_taken n sig grid rules d (wants c) at k u o e = (c, refl)
symbol_taken n sig grid rules d (opens f a i c) at k u o e = absurd (subst Early e (early_in_side n sig grid rules d (opens f a i c) at k o (λ q h. absurd (no_term_opens h))))
symbol_taken n sig grid rules d (has t b c) at k u o e = absurd (subst Early e (early_in_side n sig grid rules d (has t b c) at k o (λ q h. absurd (no_term_has h))))

one_line : (sig : Sig) → count (mark LineEnd) (blanked (map name_tok sig)) ≡ 0
one_line [] = refl
one_line (o ∷ os) = omega (arith, one_line os)

-- no fault goes before another, if it has at least its rank
given : {A : Type 0} (P : ℕ → Type 0) (r : Result A SheetFault) (f : SheetFault) → Ranks P r → r ≡ Err f → P (rank f)
given P r f h e = subst (Ranks P) e h

any_rank : {A : Type 0} (r : Result A SheetFault) → Ranks (λ n. n ≤ 10) r
any_rank (Ok u) = tt
any_rank (Err f) = rank_most f

-- the fault applies, and none that applies goes before it
abbrev pub Chosen : List Tok → Wrong → SheetFault → Type 0
Chosen ks w f = Applies ks w f × ((g : SheetFault) → Applies ks w g → rank f ≤ rank g)

module _ (ks : List Tok) (s : Stand) (lexed : AllByRecursion Lexed ks) (there : reach limits start origin ks ≡ Ok s) where
  abbrev at : At
  at = passed origin ks

  abbrev told : Told s ks at
  told = tells ks s lexed there

  in_side : (sig : Sig) (grid : Grid) (rules : List Rule) (d : Hand) (t : State) → s ≡ in_rule sig grid rules d t → InSide ks
  in_side sig grid rules d t e = subst InSide (sym (ap stand_tokens e) ∙ told.so_far) (place sig grid rules d t (subst Good e told.is_good))

  -- what may stand here

  may_begin : (sig : Sig) (grid : Grid) (rules : List Rule) (d : Hand) (c : Context) → s ≡ in_rule sig grid rules d (wants c) → Begins (ks ++ (name_of sig 0 ∷ []))
  may_begin sig grid rules d c e =
      let g : Ruled sig grid rules d (wants c) = subst Good e told.is_good in
      let front : List Tok = before_side sig grid rules d in
      let here : At = place_of (front ++ stack_tokens sig c) in
      let n : ℕ = (op_of sig 0).arity in
      let (b, q) = goes_named g.shaped.declared front d c 0 n here g.side.begun refl g.shaped.some_operators refl in
      let all : front ++ state_tokens sig (named 0 n here c) ≡ ks ++ (name_of sig 0 ∷ []) =
      ap (λ l. front ++ l) q ∙ sym (append_assoc front (stack_tokens sig c) (name_of sig 0 ∷ [])) ∙ ap (λ l. l ++ (name_of sig 0 ∷ [])) (sym (ap stand_tokens e) ∙ told.so_far) in
      subst Begins all (begins (in_rule sig grid rules d (named 0 n here c)) (begun_rule sig grid rules d (named 0 n here c) g.shaped (left_of sig d g.hand) b))

  may_name : (sig : Sig) → s ≡ in_heading (sig, WantsName) → (t : List ℕ) × Begins (ks ++ (a_name t ∷ []))
  may_name sig e =
      let g : Operators 32 sig = subst Good e told.is_good in
      let (t, b) = one_more_name sig g in
      (t, subst (λ l. Begins (l ++ (a_name t ∷ []))) (sym (ap stand_tokens e) ∙ told.so_far) b)

  first_line : (sig : Sig) → s ≡ in_heading (sig, WantsName) → count (mark LineEnd) ks ≡ 0
  first_line sig e = ap (count (mark LineEnd)) (sym told.so_far ∙ ap stand_tokens e) ∙ one_line sig

  -- the fault that is given goes no later than any that applies

  -- a token of whose kind one may stand is refused for another fault
  module _ (k : Tok) (h : NotAllowed ks (Some k)) where
    no_term : symbol k ≡ 1 → (sig : Sig) (grid : Grid) (rules : List Rule) (d : Hand) (c : Context) → s ≡ in_rule sig grid rules d (wants c) → ⊥
    no_term o sig grid rules d c e = h (name_of sig 0) (symbols (in_side sig grid rules d (wants c) e) o refl) (may_begin sig grid rules d c e)

    no_name : (t : List ℕ) → k ≡ a_name t → (sig : Sig) → s ≡ in_heading (sig, WantsName) → ⊥
    no_name t q sig e = let (j, b) = may_name sig e in h (a_name j) (names t j q refl (first_line sig e)) b

  upto_unexpected : (k : Tok) → NotAllowed ks (Some k) → Ranks (λ n. n ≤ 4) (sheet_step limits s at k)
  upto_unexpected (a_name t) h = symbol_rank 4 (omega arith) (a_name t) s at refl (λ sig e. absurd (no_name (a_name t) h t refl sig e)) (λ sig grid rules d c e. absurd (no_term (a_name t) h refl sig grid rules d c e))
  upto_unexpected (a_number t) h = dull_rank 4 (omega arith) (a_number t) s at refl
  upto_unexpected (an_instrument t) h =
      symbol_rank 4 (omega arith) (an_instrument t) s at refl (λ sig e. fault_rank 4 (an_instrument t) at (Unexpected at) (omega arith) (omega arith)) (λ sig grid rules d c e. absurd (no_term (an_instrument t) h refl sig grid rules d c e))
  upto_unexpected (a_variable x) h = symbol_rank 4 (omega arith) (a_variable x) s at refl (λ sig e. omega arith) (λ sig grid rules d c e. absurd (no_term (a_variable x) h refl sig grid rules d c e))
  upto_unexpected (a_mark m) h = dull_rank 4 (omega arith) (a_mark m) s at refl
  upto_unexpected (a_stray b) h = dull_rank 4 (omega arith) (a_stray b) s at refl

  counted : (w : Wrong) (a : At) (z : InSide ks) → Miscounted z.sheet.operators (front_of_side z.sheet z.hand) z.side w a → Counted (stands_in ks s lexed there z).state w
  counted w a z c = let y = stands_in ks s lexed there z in miscounted_shows z.shaped.declared (front_of_side z.sheet z.hand) z.side w a y.state y.place c y.freely

  upto_count : (k : Tok) (a : At) (z : InSide ks) → Miscounted z.sheet.operators (front_of_side z.sheet z.hand) z.side (Some k) a → Ranks (λ n. n ≤ 3) (sheet_step limits s at k)
  upto_count k a z c =
      let y = stands_in ks s lexed there z in
      subst (λ x. Ranks (λ n. n ≤ 3) (sheet_step limits x at k)) (sym y.stand)
      (ranks_rule (λ n. n ≤ 3) at k z.sheet.operators z.sheet.values z.sheet.rules y.hand y.state (count_rank z.sheet.operators (length z.sheet.rules) y.hand y.state at k (counted (Some k) a z c)))

  upto_undeclared : (t : List ℕ) (z : InSide ks) → found z.sheet.operators t ≡ None → Ranks (λ n. n ≤ 5) (sheet_step limits s at (a_name t))
  upto_undeclared t z e =
      let y = stands_in ks s lexed there z in
      let sig : Sig = z.sheet.operators in
      let rules : ℕ = length z.sheet.rules in
      subst (λ x. Ranks (λ n. n ≤ 5) (sheet_step limits x at (a_name t))) (sym y.stand)
      (ranks_rule (λ n. n ≤ 5) at (a_name t) sig z.sheet.values z.sheet.rules y.hand y.state
      (side_low 5 (omega arith) sig rules y.hand y.state at (a_name t) (λ c q. subst (λ o. Ranks (λ n. n ≤ 5) (chain (in_text (with_name sig o at c)) (λ u. within_room limits rules c at (Ok u)))) (sym e) (omega arith))))

  upto_left : (x : ℕ) → InLeft x ks → Ranks (λ n. n ≤ 9) (sheet_step limits s at (a_variable x))
  upto_left x h =
      let z : InSide ks = h.place in
      let y = stands_in ks s lexed there z in
      let left : y.hand ≡ on_left = alike_left z.hand y.hand y.alike h.on_the_left in
      subst (λ t. Ranks (λ n. n ≤ 9) (sheet_step limits t at (a_variable x))) (sym (y.stand ∙ ap (λ d. in_rule z.sheet.operators z.sheet.values z.sheet.rules d y.state) left))
      (left_rank z.sheet.operators z.sheet.values z.sheet.rules y.state at x)

  upto_front : (k : Tok) → NoOperator ks (Some k) → Ranks (λ n. n ≤ 8) (sheet_step limits s at k)
  upto_front k h = subst (λ t. Ranks (λ n. n ≤ 8) (sheet_step limits t at k)) (sym (is_behind ks s there h.sheet h.shaped (sym h.stands))) (front_rank h.sheet.operators h.sheet.values h.sheet.rules at k)

  -- of a token that is this one
  of_token : (P : ℕ → Type 0) (k j : Tok) → Some k ≡ Some j → Ranks P (sheet_step limits s at j) → Ranks P (sheet_step limits s at k)
  of_token P k j e h = subst (λ x. Ranks P (sheet_step limits s at x)) (sym (same_some e)) h

  takes : (t : List ℕ) → Begins (ks ++ (a_number t ∷ [])) → takes_number s ≡ true
  takes t b = let (n, more, y) = goes_on ks s there (a_number t) b in let (u, e) = y in number_taken n at t u s e

  upto_number : (k : Tok) → IllNumbered (Some k) ⊎ OutOfRange ks (Some k) → Ranks (λ n. n ≤ 2) (sheet_step limits s at k)
  upto_number k (inl (inl i)) = of_token (λ n. n ≤ 2) k (a_number i.0) i.1 (number_rank i.0 i.2 at s)
  upto_number k (inl (inr i)) = of_token (λ n. n ≤ 2) k (an_instrument i.0) i.1 (instrument_rank i.0 i.2 at s)
  upto_number k (inr r) = let (t, j, e, b, n) = r in of_token (λ n. n ≤ 2) k (a_number t) e (range_rank at t s (takes j b))

  upto : (k : Tok) (g : SheetFault) → Applies ks (Some k) g → Ranks (λ n. n ≤ rank g) (sheet_step limits s at k)
  upto k (Text (Stray a)) h = of_token (λ n. n ≤ 1) k (a_stray h.1.0) h.1.1 (stray_rank s at h.1.0)
  upto k (Text (BadNumber a)) h = upto_number k h.1
  upto k (Text (Unexpected a)) h = upto_unexpected k h.1
  upto k (Text (Undeclared a)) h = of_token (λ n. n ≤ 5) k (a_name h.1.name) h.1.is_name (upto_undeclared h.1.name h.1.place h.1.not_found)
  upto k (Text (WrongArity a)) h = upto_count k a h.0 h.1
  upto k (Text (PastLimit a)) h = let (j, e, o) = h.2 in of_token (λ n. n ≤ 6) k j e (early_rank (sheet_step limits s at j) (early ks s lexed there j o at h.1))
  upto k (Repeated a) h = of_token (λ n. n ≤ 7) k (a_name h.1.name) h.1.is_name (name_rank h.1.name s at)
  upto k (Headless a) h = upto_front k h.1
  upto k (Doubled a) h = let (x, e, l) = h.1 in of_token (λ n. n ≤ 9) k (a_variable x) e (upto_left x l)
  upto k (Unbound a) h = any_rank (sheet_step limits s at k)

  -- and so at the end of the text

  count_at_end : (a : At) (z : InSide ks) → Miscounted z.sheet.operators (front_of_side z.sheet z.hand) z.side None a → Ranks (λ n. n ≤ 3) (sheet_end s at)
  count_at_end a z c =
      let y = stands_in ks s lexed there z in
      subst (λ x. Ranks (λ n. n ≤ 3) (sheet_end x at)) (sym y.stand) (count_end z.sheet.operators z.sheet.values z.sheet.rules y.hand y.state at (counted None a z c))

  upto_end : (g : SheetFault) → Applies ks None g → Ranks (λ n. n ≤ rank g) (sheet_end s at)
  upto_end (Text (Stray a)) h = absurd (none-some _ h.1.1)
  upto_end (Text (BadNumber a)) h = absurd (⊎_elim (λ i. ⊎_elim (λ j. none-some _ j.1) (λ j. none-some _ j.1) i) (λ r. none-some _ r.2) h.1)
  upto_end (Text (Unexpected a)) h = end_rank 4 (omega arith) s at
  upto_end (Text (Undeclared a)) h = end_rank 5 (omega arith) s at
  upto_end (Text (WrongArity a)) h = count_at_end a h.0 h.1
  upto_end (Text (PastLimit a)) h = end_rank 6 (omega arith) s at
  upto_end (Repeated a) h = end_rank 7 (omega arith) s at
  upto_end (Headless a) h = end_rank 8 (omega arith) s at
  upto_end (Doubled a) h = end_rank 9 (omega arith) s at
  upto_end (Unbound a) h = end_rank 10 (omega arith) s at

  -- and it applies

  -- the same of this token
  step_of : (k j : Tok) (f : SheetFault) → k ≡ j → sheet_step limits s at k ≡ Err f → sheet_step limits s at j ≡ Err f
  step_of k j f q e = ap (sheet_step limits s at) (sym q) ∙ e

  number_applies : (t : List ℕ) (a : At) → sheet_step limits s at (a_number t) ≡ Err (Text (BadNumber a)) → StuckAt ks (Some (a_number t)) → IllNumbered (Some (a_number t)) ⊎ OutOfRange ks (Some (a_number t))
  number_applies t a e stuck = ⊎_elim
      (λ well. ⊎_elim
      (λ q. let (j, b) = may_number s told.is_good q in inr (t, j, refl, subst (λ l. Begins (l ++ (a_number j ∷ []))) told.so_far b, stuck))
      (λ q. absurd (given (λ n. n ≡ 2 → ⊥) (sheet_step limits s at (a_number t)) (Text (BadNumber a)) (number_elsewhere at t well s q) e refl))
      (cases_Bool (takes_number s)))
      (λ ill. inl (inl (t, refl, ill)))
      (cases_Bool (plain t))

  instrument_applies : (t : List ℕ) (a : At) (o : Option ℕ) → instrument_number t ≡ o → sheet_step limits s at (an_instrument t) ≡ Err (Text (BadNumber a)) → IllNumbered (Some (an_instrument t)) ⊎ OutOfRange ks (Some (an_instrument t))
  instrument_applies t a None q e = inl (inr (t, refl, q))
  instrument_applies t a (Some n) q e = absurd (given (λ i. i ≡ 2 → ⊥) (sheet_step limits s at (an_instrument t)) (Text (BadNumber a)) (well_instrument t n q at s) e refl)

  bad_number : (k : Tok) (a : At) (t : List ℕ) → (Some k ≡ Some (a_number t)) ⊎ (Some k ≡ Some (an_instrument t)) → sheet_step limits s at k ≡ Err (Text (BadNumber a)) → StuckAt ks (Some k) → IllNumbered (Some k) ⊎ OutOfRange ks (Some k)
  bad_number k a t (inl q) e n = subst (λ w. IllNumbered w ⊎ OutOfRange ks w) (sym q) (number_applies t a (step_of k (a_number t) _ (same_some q) e) (subst (StuckAt ks) q n))
  bad_number k a t (inr q) e n = subst (λ w. IllNumbered w ⊎ OutOfRange ks w) (sym q) (instrument_applies t a (instrument_number t) refl (step_of k (an_instrument t) _ (same_some q) e))

  not_allowed : (k : Tok) (a : At) → sheet_step limits s at k ≡ Err (Text (Unexpected a)) → StuckAt ks (Some k) → NotAllowed ks (Some k)
  not_allowed k a e n j (same q) b = n (subst (λ x. Begins (ks ++ (x ∷ []))) (sym q) b)
  not_allowed k a e n j (numbers t i q r) b =
      let may : takes_number s ≡ true = takes i (subst (λ x. Begins (ks ++ (x ∷ []))) r b) in
      let late = given (λ i. i ≤ 2) (sheet_step limits s at (a_number t)) (Text (Unexpected a)) (range_rank at t s may) (step_of k (a_number t) _ q e) in
      omega arith
  not_allowed k a e n j (names t i q r l) b =
      let (m, more, y) = goes_on ks s there (a_name i) (subst (λ x. Begins (ks ++ (x ∷ []))) r b) in
      let (u, p) = y in
      let (sig, here) = name_taken m at i u s (ap (count (mark LineEnd)) told.so_far ∙ l) p in
      let other : Ranks (λ i. i ≡ 4 → ⊥) (sheet_step limits s at (a_name t)) =
      subst (λ x. Ranks (λ i. i ≡ 4 → ⊥) (sheet_step limits x at (a_name t))) (sym here)
      (ranks_on (λ i. i ≡ 4 → ⊥) (wants_name 32 (a_name t) sig at) (λ g. Ok (headed g)) (first_name (λ i. i ≡ 4 → ⊥) sig t at (λ z. omega arith) (λ z. omega arith)) (λ _. tt)) in
      given (λ i. i ≡ 4 → ⊥) (sheet_step limits s at (a_name t)) (Text (Unexpected a)) other (step_of k (a_name t) _ q e) refl
  not_allowed k a e n j (symbols z o p) b =
      let y = stands_in ks s lexed there z in
      let sig : Sig = z.sheet.operators in
      let (m, more, x) = goes_on ks s there j b in
      let (u, q) = x in
      let (c, r) = symbol_taken m sig z.sheet.values z.sheet.rules y.hand y.state at j u p (ap (λ v. sheet_step m v at j) (sym y.stand) ∙ q) in
      let here : s ≡ in_rule sig z.sheet.values z.sheet.rules y.hand (wants c) = y.stand ∙ ap (in_rule sig z.sheet.values z.sheet.rules y.hand) r in
      let other : Ranks (λ i. i ≡ 4 → ⊥) (sheet_step limits s at k) =
      subst (λ v. Ranks (λ i. i ≡ 4 → ⊥) (sheet_step limits v at k)) (sym here)
      (ranks_rule (λ i. i ≡ 4 → ⊥) at k sig z.sheet.values z.sheet.rules y.hand (wants c) (symbol_allowed sig (length z.sheet.rules) y.hand c at k o)) in
      given (λ i. i ≡ 4 → ⊥) (sheet_step limits s at k) (Text (Unexpected a)) other e refl

  not_declared : (k : Tok) (a : At) (z : InSide ks) (t : List ℕ) → Some k ≡ Some (a_name t) → found z.sheet.operators t ≡ None → sheet_step limits s at k ≡ Err (Text (Undeclared a)) → NotDeclared ks (Some k)
  not_declared k a z t q n e =
      let y = stands_in ks s lexed there z in
      let sig : Sig = z.sheet.operators in
      let begins_here : (c : Context) × (y.state ≡ wants c) = ⊎_elim (λ w. w)
      (λ low.
      let late = given (λ i. i ≤ 4) (sheet_step limits s at k) (Text (Undeclared a))
      (subst (λ v. Ranks (λ i. i ≤ 4) (sheet_step limits v at k)) (sym y.stand) (ranks_rule (λ i. i ≤ 4) at k sig z.sheet.values z.sheet.rules y.hand y.state (low sig (length z.sheet.rules) y.hand at k))) e in
      absurd (omega arith))
      (begins_or_low y.state) in
      let (c, r) = begins_here in
      record {
        place = z;
        begins_a_term = (name_of sig 0, refl, may_begin sig z.sheet.values z.sheet.rules y.hand c (y.stand ∙ ap (in_rule sig z.sheet.values z.sheet.rules y.hand) r));
        name = t;
        is_name = q;
        not_found = n;
      }

  no_operator : (k : Tok) (a : At) → WholeSheet ks → sheet_step limits s at k ≡ Err (Headless a) → NoOperator ks (Some k)
  no_operator k a w e =
      let (t, h, q) = w in
      record {
        sheet = t;
        shaped = h;
        stands = sym q;
        token = k;
        is_token = refl;
        is_symbol = ⊎_elim (λ z. let late = given (λ i. i ≤ 4) (sheet_step limits s at k) (Headless a) (dull_rank 4 (omega arith) k s at z) e in absurd (omega arith)) (λ o. o) (symbol_or_none k);
        not_declared = λ n r. let late = given (λ i. i ≤ 7) (sheet_step limits s at (a_name n)) (Headless a) (name_rank n s at) (step_of k (a_name n) _ r e) in absurd (omega arith);
      }

  applies : (k : Tok) (f : SheetFault) → sheet_step limits s at k ≡ Err f → ((OfLimit f → ⊥) → StuckAt ks (Some k)) → Cause ks (Some k) f → Applies ks (Some k) f
  applies k (Text (Stray a)) e n c = c
  applies k (Text (BadNumber a)) e n c = (c.0, bad_number k a c.1.0 c.1.1 e (n (λ z. z)))
  applies k (Text (Unexpected a)) e n c = (c, not_allowed k a e (n (λ z. z)))
  applies k (Text (Undeclared a)) e n c = let (z, t, q, r) = c.1 in (c.0, not_declared k a z t q r e)
  applies k (Text (WrongArity a)) e n c = c
  applies k (Text (PastLimit a)) e n c = c
  applies k (Repeated a) e n c = c
  applies k (Headless a) e n c = (c.0, no_operator k a c.1 e)
  applies k (Doubled a) e n c = c
  applies k (Unbound a) e n c = c

  applies_end : (f : SheetFault) → sheet_end s at ≡ Err f → Cause ks None f → Applies ks None f
  applies_end (Text (Stray a)) e c = c
  applies_end (Text (BadNumber a)) e c = absurd (⊎_elim (λ q. none-some _ q) (λ q. none-some _ q) c.1.1)
  applies_end (Text (Unexpected a)) e c = (c, tt)
  applies_end (Text (Undeclared a)) e c = absurd (none-some _ c.1.2)
  applies_end (Text (WrongArity a)) e c = c
  applies_end (Text (PastLimit a)) e c = c
  applies_end (Repeated a) e c = c
  applies_end (Headless a) e c = let late = given (λ i. i ≤ 4) (sheet_end s at) (Headless a) (end_rank 4 (omega arith) s at) e in absurd (omega arith)
  applies_end (Doubled a) e c = c
  applies_end (Unbound a) e c = c

  pub chosen : (w : Wrong) (f : SheetFault) → Refuses (sheet_step limits) sheet_end s at w f → Cause ks w f → Chosen ks w f
  chosen None f e c = (applies_end f e c, λ g h. given (λ i. i ≤ rank g) (sheet_end s at) f (upto_end g h) e)
  chosen (Some k) f e c = (applies k f e (stuck ks s there (Some k) f e) c, λ g h. given (λ i. i ≤ rank g) (sheet_step limits s at k) f (upto k g h) e)
