-- What a token of a side does: it is one more of the tokens read, or it is refused for a reason.
use Rattle.std.proofs.Common.{◌≡◌, ℕ, zero, suc, ◌+◌, ◌<◌, ◌≤◌, false, cond, eqb, ltb, List, [], ◌∷◌, ◌++◌, length, Some, None, Ok, Err, decimal, Option, Result, sym, refl, ap, ◌∙◌, subst, inl, inr, arith}
use Rattle.std.proofs.lemmas.Bool.{false≢true, cond_both, and_parts, and_cases, ltb-true, ltb-false, eqb-true}
use Rattle.terms.specs.Term.{Term, variable, instrument, apply, Terms, nil}
use Rattle.terms.specs.Signature.{Sig, op_of, found, Declared}
use Rattle.terms.specs.Ticket.{TermOf}
use Rattle.terms.specs.Text.{text_of}
use Rattle.terms.specs.Substitution.{occurrences}
use Rattle.reading.specs.declared.token.At.{At}
use Rattle.reading.specs.declared.token.Mark.{Mark}
use Rattle.reading.specs.declared.token.Mark.TheVariants.{Opening, Closing, Comma, Equals, Dash, Blank, LineEnd}
use Rattle.reading.specs.declared.fault.TextFault.{TextFault}
use Rattle.reading.specs.Tokens.{Tok, a_name, a_number, an_instrument, a_variable, a_mark, a_stray, tokens, lines}
use Rattle.reading.specs.Numbers.{instrument_number}
use Rattle.reading.specs.Reading.{Context, top, within, State, wants, opens, has, and_then, fault_of, named, with_name, with_number, needless, closed, continued, on_opens_mark, on_has_mark, chain}
use Rattle.reading.specs.Laws.{Wrong, ShowsCount, needless_opening, missing_opening}
use Rattle.reading.proofs.Equal.{same_some}
use Rattle.reading.proofs.Digits.{instrument_is}
use Rattle.terms.proofs.Names.{found_is}
use Rattle.reading.proofs.States.{name_of, stack_tokens, state_tokens, PlacedOf}
use Rattle.reading.specs.declared.fault.SheetFault.{SheetFault}
use Rattle.reading.specs.declared.fault.SheetFault.TheVariants.{Headless}
use Rattle.sheet_reading.specs.Sheet.{Limits}
use Rattle.sheet_reading.specs.Sides.{Hand, on_left, on_right, symbols_before, depth, occurrences_before, room, within_room, in_text, fronted, variable_on, side_step}
use Rattle.sheet_reading.specs.Reading.{is_mark}
use Rattle.sheet_reading.specs.Laws.{count, symbol, the_variable, Behind, Miscounted}
use Rattle.reading.proofs.Tokens.{Lexed}
use Rattle.reading.proofs.Lexing.{tokens_term}
use Rattle.sheet_reading.proofs.SideFacts.{TextReason, SideReason}
use Rattle.sheet_reading.proofs.SideStates.{Frame, ContextShaped, terms_then, StateLow, depth_low, levels_then, MayStand, Fronted, Good}
use Rattle.sheet_reading.proofs.SideSteps.{GoesOn, goes_named, goes_instrument, goes_opened, goes_closed, goes_continued}
use Rattle.sheet_reading.proofs.Counting.{count_then, symbols_so_far, occurrences_so_far, open_so_far}
use Rattle.reading.proofs.Growing.{name_alone, tokens_arguments, shows_closing, shows_comma}
use Rattle.reading.proofs.Faults.{own_fault}

abbrev pub Tells : Sig → Limits → ℕ → List Tok → Hand → State → At → Tok → Result State SheetFault → Type 0
Tells sig m rules before d s at k (Ok u) = Good sig m before d u × (state_tokens sig u ≡ state_tokens sig s ++ (k ∷ [])) × (lines k ≡ 0)
Tells sig m rules before d s at k (Err f) = SideReason m sig rules d before s at k f

-- a term without an operator in front, where a left side begins and elsewhere
in_front : (d : Hand) (k : Context) (at : At) (u : State) (P : Result State SheetFault → Type 0) → (d ≡ on_left → wants k ≡ wants top → P (Err (Headless at))) → (((t : Term) → Fronted d (has t None k)) → P (Ok u)) → P (fronted d k at u)
in_front on_left top at u P p q = p refl refl
in_front on_left (within f a ts n k) at u P p q = q (λ t. tt)
in_front (on_right l) k at u P p q = q (λ t. tt)

module _ {sig : Sig} (good : Declared sig) (before : List Tok) where
  -- a variable that may stand once more, beside any other
  once_more : (d : Hand) (k : Context) (x y : ℕ) → ContextShaped sig before k → MayStand d y (count (the_variable y) (stack_tokens sig k)) → MayStand d x (suc (occurrences_before x k)) → MayStand d y (count (the_variable y) (stack_tokens sig k) + cond (eqb y x) 1 0)
  once_more d k x y g p q = cond_both (eqb y x) 1 0 (λ n. MayStand d y (count (the_variable y) (stack_tokens sig k) + n))
      (λ e. subst (λ z. MayStand d z (count (the_variable z) (stack_tokens sig k) + 1)) (sym (eqb-true y x e)) (subst (MayStand d x) (omega (arith, occurrences_so_far good x before k g)) q))
      (λ _. subst (MayStand d y) (omega arith) p)

  -- the operator behind some tokens, and wrong counts of its arguments

  pub miscounted_opens : (f : ℕ) (a : At) (n : ℕ) (k : Context) (w : Wrong) → Frame sig f a nil n (before ++ stack_tokens sig k) → (w ≡ Some (a_mark Opening) → ⊥) → Miscounted sig before (state_tokens sig (opens f a n k)) w a
  miscounted_opens f a n k w g h =
      record { earlier = stack_tokens sig k; operator = f; so_far = nil; declared = g.declared; terms = tt; stands = refl; shows = missing_opening refl (omega (arith, g.counted)) h; its_place = g.placed }

  miscounted_within : (t : Term) (b : Option At) (f : ℕ) (a : At) (ts : Terms) (n : ℕ) (k : Context) (w : Wrong) → Frame sig f a ts n (before ++ stack_tokens sig k) → TermOf sig t → ShowsCount (op_of sig f).arity (and_then ts t) w → Miscounted sig before (state_tokens sig (has t b (within f a ts n k))) w a
  miscounted_within t b f a ts n k w g h c = record {
    earlier = stack_tokens sig k;
    operator = f;
    so_far = and_then ts t;
    declared = g.declared;
    terms = terms_then sig ts t g.terms h;
    stands = tokens_arguments sig f a ts t b n k;
    shows = c;
    its_place = g.placed;
  }

  miscounted_opening : (t : Term) (a : At) (k : Context) → TermOf sig t → PlacedOf (Behind (before ++ stack_tokens sig k)) t (Some a) → Miscounted sig before (state_tokens sig (has t (Some a) k)) (Some (a_mark Opening)) a
  miscounted_opening t a k h p =
      let (f, e, q) = p in
      let j : TermOf sig (apply f nil) = subst (TermOf sig) e h in
      record {
        earlier = stack_tokens sig k;
        operator = f;
        so_far = nil;
        declared = j.0;
        terms = tt;
        stands = ap (λ x. stack_tokens sig k ++ tokens (text_of sig x)) e ∙ ap (λ l. stack_tokens sig k ++ l) (name_alone good f j.0 j.1);
        shows = needless_opening refl (sym j.1) refl;
        its_place = q;
      }

  module _ (m : Limits) (rules : ℕ) where
    goes_good : (d : Hand) (s u : State) (at : At) (k : Tok) → Good sig m before d s → GoesOn good before d s k u → lines k ≡ 0 → count symbol (state_tokens sig s) + symbol k ≤ m.symbols → StateLow m.levels u → Tells sig m rules before d s at k (Ok u)
    goes_good d s u at k g h l few low = (record { begun = h.0; few = omega (arith, ap (count symbol) h.1, count_then symbol (state_tokens sig s) k); low = low }, h.1, l)

    -- room for one symbol more
    abbrev Room : Context → Type 0
    Room k = (count symbol (stack_tokens sig k) < m.symbols) × (depth k < m.levels)

    in_room : (d : Hand) (k : Context) (at : At) (tok : Tok) (r : Result State SheetFault) → Good sig m before d (wants k) → symbol tok ≡ 1 → (Room k → Tells sig m rules before d (wants k) at tok r) → Tells sig m rules before d (wants k) at tok (within_room m rules k at r)
    in_room d k at tok r g one h =
        let c = symbols_so_far good before k g.begun.shaped in
        let o = open_so_far good before k g.begun.shaped in
        let l = depth_low m.levels k g.low in
        cond_both (room m rules k) r _ (Tells sig m rules before d (wants k) at tok)
        (λ e.
        let (p, q) = and_parts (ltb rules m.rules) _ e in
        let (i, j) = and_parts (ltb (symbols_before k) m.symbols) _ q in
        h (omega (arith, ltb-true (symbols_before k) m.symbols i), ltb-true (depth k) m.levels j))
        (λ e. (
          refl,
          one,
          elim (and_cases (ltb rules m.rules) _ e) [
            | inl p ↦ inl (ltb-false rules m.rules p)
            | inr p ↦ inr (elim (and_cases (ltb (symbols_before k) m.symbols) _ p) [
              | inl q ↦ inl (omega (arith, ltb-false (symbols_before k) m.symbols q, g.few))
              | inr q ↦ inr (omega (arith, ltb-false (depth k) m.levels q))
            ])
          ],
        ))

    -- where a term may begin

    tells_named : (d : Hand) (k : Context) (f n : ℕ) (at : At) → Good sig m before d (wants k) → Behind (before ++ stack_tokens sig k) at → f < length sig → n ≡ (op_of sig f).arity → Room k
        → Tells sig m rules before d (wants k) at (name_of sig f) (Ok (named f n at k))
    tells_named d k f zero at g p h e r = goes_good d (wants k) (named f zero at k) at (name_of sig f) g (goes_named good before d k f zero at g.begun p h e) refl (omega arith) (omega arith, g.low)
    tells_named d k f (suc n) at g p h e r = goes_good d (wants k) (named f (suc n) at k) at (name_of sig f) g (goes_named good before d k f (suc n) at g.begun p h e) refl (omega arith) (omega arith, g.low)

    tells_name : (d : Hand) (k : Context) (s : List ℕ) (at : At) (o : Option ℕ) → found sig s ≡ o → Good sig m before d (wants k) → Behind (before ++ stack_tokens sig k) at
        → Tells sig m rules before d (wants k) at (a_name s) (chain (in_text (with_name sig o at k)) (λ u. within_room m rules k at (Ok u)))
    tells_name d k s at None e g p = (refl, (s, refl, e))
    tells_name d k s at (Some f) e g p =
        let (h, q) = found_is sig s f e in
        in_room d k at (a_name s) _ g refl (λ r. subst (λ x. Tells sig m rules before d (wants k) at (a_name x) (Ok (named f (op_of sig f).arity at k))) q (tells_named d k f (op_of sig f).arity at g p h refl r))

    tells_number : (d : Hand) (k : Context) (s : List ℕ) (at : At) (o : Option ℕ) → instrument_number s ≡ o → Lexed (an_instrument s) → Good sig m before d (wants k)
        → Tells sig m rules before d (wants k) at (an_instrument s) (chain (in_text (with_number o at k)) (λ u. within_room m rules k at (fronted d k at u)))
    tells_number d k s at None e l g = (refl, (s, inr refl))
    tells_number d k s at (Some n) e l g =
        let (q, h) = instrument_is s n l e in
        let u : State = has (instrument n) None k in
        in_room d k at (an_instrument s) _ g refl (λ r. in_front d k at u (Tells sig m rules before d (wants k) at (an_instrument s)) (λ i j. (refl, i, j)) (λ j.
        subst (λ x. Tells sig m rules before d (wants k) at (an_instrument x) (Ok u)) (sym q)
        (goes_good d (wants k) u at (an_instrument (35 ∷ decimal n)) g (goes_instrument good before d k n g.begun h (j (instrument n))) refl (omega arith) (omega arith, g.low))))

    tells_variable : (d : Hand) (k : Context) (x : ℕ) (at : At) → x < 8 → Good sig m before d (wants k) → Room k → ((t : Term) → Fronted d (has t None k)) → MayStand d x (suc (occurrences_before x k))
        → Tells sig m rules before d (wants k) at (a_variable x) (Ok (has (variable x) None k))
    tells_variable d k x at l g r h j =
        let u : State = has (variable x) None k in
        let e : state_tokens sig u ≡ stack_tokens sig k ++ (a_variable x ∷ []) = ap (λ ks. stack_tokens sig k ++ ks) (tokens_term good (variable x) l) in
        let c : (y : ℕ) → count (the_variable y) (state_tokens sig u) ≡ count (the_variable y) (stack_tokens sig k) + cond (eqb y x) 1 0 = λ y. ap (count (the_variable y)) e ∙ count_then (the_variable y) (stack_tokens sig k) (a_variable x) in (
          record {
            begun = record {
              shaped = (l, g.begun.shaped, tt);
              may_stand = λ y. subst (MayStand d y) (sym (c y)) (once_more d k x y g.begun.shaped (g.begun.may_stand y) j);
              fronted = h (variable x);
            };
            few = omega (arith, ap (count symbol) e, count_then symbol (stack_tokens sig k) (a_variable x));
            low = (omega arith, g.low);
          },
          e,
          refl,
        )

    on_variable : (d : Hand) (k : Context) (x : ℕ) (at : At) → x < 8 → Good sig m before d (wants k) → Room k → ((t : Term) → Fronted d (has t None k)) → Tells sig m rules before d (wants k) at (a_variable x) (variable_on d x k at)
    on_variable on_left k x at l g r h =
        let c = occurrences_so_far good x before k g.begun.shaped in
        cond_both (ltb 0 (occurrences_before x k)) _ _ (Tells sig m rules before on_left (wants k) at (a_variable x))
        (λ e. (refl, refl, (x, refl, omega (arith, ltb-true 0 (occurrences_before x k) e))))
        (λ e. tells_variable on_left k x at l g r h (omega (arith, ltb-false 0 (occurrences_before x k) e)))
    on_variable (on_right t) k x at l g r h =
        cond_both (ltb 0 (occurrences x t)) _ _ (Tells sig m rules before (on_right t) (wants k) at (a_variable x))
        (λ e. tells_variable (on_right t) k x at l g r h (λ _. ltb-true 0 (occurrences x t) e))
        (λ e. (refl, (t, x, refl, refl, omega (arith, ltb-false 0 (occurrences x t) e))))

    -- behind a term

    tells_closed : (d : Hand) (t : Term) (b : Option At) (k : Context) (at : At) → Good sig m before d (has t b k) → Tells sig m rules before d (has t b k) at (a_mark Closing) (in_text (closed t k at))
    tells_closed d t b top at g = refl
    tells_closed d t b (within f a ts zero k) at g =
        goes_good d (has t b (within f a ts zero k)) (has (apply f (and_then ts t)) None k) at (a_mark Closing) g (goes_closed good before d t b f a ts k g.begun) refl (omega (arith, g.few))
        (let low = levels_then m.levels (suc (depth k)) ts t g.low.1.0 g.low.0 in omega arith, g.low.1.1)
    tells_closed d t b (within f a ts (suc n) k) at g =
        let (h, j, q) = g.begun.shaped in
        miscounted_within t b f a ts (suc n) k _ j.0 h (shows_closing (op_of sig f).arity ts t n j.0.counted)

    tells_continued : (d : Hand) (t : Term) (b : Option At) (k : Context) (at : At) → Good sig m before d (has t b k) → Tells sig m rules before d (has t b k) at (a_mark Comma) (in_text (continued t k at))
    tells_continued d t b top at g = refl
    tells_continued d t b (within f a ts zero k) at g =
        let (h, j, q) = g.begun.shaped in
        miscounted_within t b f a ts zero k _ j.0 h (shows_comma (op_of sig f).arity ts t j.0.counted)
    tells_continued d t b (within f a ts (suc n) k) at g =
        goes_good d (has t b (within f a ts (suc n) k)) (wants (within f a (and_then ts t) n k)) at (a_mark Comma) g (goes_continued good before d t b f a ts n k g.begun) refl (omega (arith, g.few))
        (levels_then m.levels (suc (depth k)) ts t g.low.1.0 g.low.0, g.low.1.1)

    tells_opening : (d : Hand) (t : Term) (b : Option At) (k : Context) (at : At) → Good sig m before d (has t b k) → TextReason m sig rules before (state_tokens sig (has t b k)) at (a_mark Opening) (needless b at)
    tells_opening d t None k at g = refl
    tells_opening d t (Some a) k at g = let (h, j, q) = g.begun.shaped in miscounted_opening t a k h q

    has_mark : (d : Hand) (j : Mark) (at : At) (t : Term) (b : Option At) (k : Context) → Good sig m before d (has t b k) → Tells sig m rules before d (has t b k) at (a_mark j) (in_text (on_has_mark j at t b k))
    has_mark d Opening at t b k g = tells_opening d t b k at g
    has_mark d Closing at t b k g = tells_closed d t b k at g
    has_mark d Comma at t b k g = tells_continued d t b k at g
    has_mark d Equals at t b k g = refl
    has_mark d Dash at t b k g = refl
    has_mark d Blank at t b k g = refl
    has_mark d LineEnd at t b k g = refl

    -- behind an operator that takes arguments

    unopened : (d : Hand) (f : ℕ) (a : At) (n : ℕ) (k : Context) (tok : Tok) → Good sig m before d (opens f a n k) → is_mark Opening tok ≡ false → Miscounted sig before (state_tokens sig (opens f a n k)) (Some tok) a
    unopened d f a n k tok g h = miscounted_opens f a n k (Some tok) g.begun.shaped.0 (λ e. false≢true (sym h ∙ ap (is_mark Opening) (same_some e)))

    opens_mark : (d : Hand) (j : Mark) (at : At) (f : ℕ) (a : At) (n : ℕ) (k : Context) → Good sig m before d (opens f a n k) → Tells sig m rules before d (opens f a n k) at (a_mark j) (in_text (on_opens_mark j f a n k))
    opens_mark d Opening at f a n k g =
        goes_good d (opens f a n k) (wants (within f a nil n k)) at (a_mark Opening) g (goes_opened good before d f a n k g.begun) refl (omega (arith, g.few)) (omega (arith, g.low.0), g.low.1)
    opens_mark d Closing at f a n k g = unopened d f a n k _ g refl
    opens_mark d Comma at f a n k g = unopened d f a n k _ g refl
    opens_mark d Equals at f a n k g = unopened d f a n k _ g refl
    opens_mark d Dash at f a n k g = unopened d f a n k _ g refl
    opens_mark d Blank at f a n k g = unopened d f a n k _ g refl
    opens_mark d LineEnd at f a n k g = unopened d f a n k _ g refl

    -- what is wrong with a token by itself goes first
    ill : (side : List Tok) (k : Tok) (at : At) (f : TextFault) → TextReason m sig rules before side at k f → TextReason m sig rules before side at k (fault_of k at f)
    ill side k at f h = own_fault (TextReason m sig rules before side at k) k at f h (λ s e. (refl, (s, e))) (λ b e. (refl, (b, e)))

    pub tells : (d : Hand) (s : State) (at : At) (k : Tok) → Lexed k → Good sig m before d s → Behind (before ++ state_tokens sig s) at → Tells sig m rules before d s at k (side_step m sig rules d s at k)
    tells d (wants k) at (a_name s) l g p = tells_name d k s at (found sig s) refl g p
    tells d (wants k) at (a_number s) l g p = ill _ (a_number s) at _ refl
    tells d (wants k) at (an_instrument s) l g p = tells_number d k s at (instrument_number s) refl l g
    tells d (wants k) at (a_variable x) l g p =
        in_room d k at (a_variable x) _ g refl (λ r. in_front d k at (wants k) (λ q. Tells sig m rules before d (wants k) at (a_variable x) (chain q (λ _. variable_on d x k at))) (λ i j. (refl, i, j)) (on_variable d k x at l g r))
    tells d (wants k) at (a_mark j) l g p = refl
    tells d (wants k) at (a_stray b) l g p = (refl, (b, refl))
    tells d (opens f a n k) at (a_name s) l g p = unopened d f a n k _ g refl
    tells d (opens f a n k) at (a_number s) l g p = ill _ (a_number s) at _ (unopened d f a n k _ g refl)
    tells d (opens f a n k) at (an_instrument s) l g p = ill _ (an_instrument s) at _ (unopened d f a n k _ g refl)
    tells d (opens f a n k) at (a_variable x) l g p = unopened d f a n k _ g refl
    tells d (opens f a n k) at (a_mark j) l g p = opens_mark d j at f a n k g
    tells d (opens f a n k) at (a_stray b) l g p = (refl, (b, refl))
    tells d (has t b k) at (a_name s) l g p = refl
    tells d (has t b k) at (a_number s) l g p = ill _ (a_number s) at _ refl
    tells d (has t b k) at (an_instrument s) l g p = ill _ (an_instrument s) at _ refl
    tells d (has t b k) at (a_variable x) l g p = refl
    tells d (has t b k) at (a_mark j) l g p = has_mark d j at t b k g
    tells d (has t b k) at (a_stray c) l g p = (refl, (c, refl))

-- where a side begins

pub starts : (sig : Sig) (m : Limits) (before : List Tok) (d : Hand) → Good sig m before d (wants top)
starts sig m before on_left = record { begun = record { shaped = tt; may_stand = λ x. omega arith; fronted = tt }; few = omega arith; low = tt }
starts sig m before (on_right l) = record { begun = record { shaped = tt; may_stand = λ x h. absurd (omega arith); fronted = tt }; few = omega arith; low = tt }
