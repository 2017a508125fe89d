-- A symbol past a limit is not accepted.
use Rattle.std.proofs.Common.{◌≡◌, ℕ, suc, ◌≤◌, false, ltb, leb, List, [], ◌∷◌, ◌++◌, map, length, take, Ok, Err, Option, Result, sym, refl, ap, ◌∙◌, subst, append-nil, arith}
use Rattle.std.specs.List.{AllByRecursion}
use Rattle.std.proofs.lemmas.Bool.{cond_both, cond-true, cond-false, and_left, and_right, le-ltb, le-leb}
use Rattle.std.proofs.lemmas.List.{append_cancel_left}
use Rattle.terms.specs.Term.{Term}
use Rattle.terms.specs.Rule.{Rule}
use Rattle.terms.specs.Signature.{Sig, Declared}
use Rattle.terms.specs.Text.{text_of}
use Rattle.reading.specs.declared.token.At.{At}
use Rattle.reading.specs.declared.token.Mark.{Mark}
use Rattle.reading.specs.declared.token.Mark.TheVariants.{Opening, Closing, Equals, LineEnd}
use Rattle.reading.specs.declared.heading.Stage.TheVariants.{WantsName, HasName, WantsCount, HasCount, Done}
use Rattle.reading.specs.Tokens.{Tok, a_name, a_number, an_instrument, a_variable, a_mark, a_stray, tokens, origin, past}
use Rattle.reading.specs.Reading.{Context, top, within, State, wants, opens, has, on_opens, on_has, chain}
use Rattle.reading.specs.Heading.{Outcome}
use Rattle.reading.proofs.Equal.{not_both, same_ok}
use Rattle.reading.proofs.Lines.{follow, line, blanked, spaced, name_tok, count_tok, heading_tokens}
use Rattle.reading.proofs.Running.{passed, reach_with, then_reach, chain_ok, reach_split, reach_first}
use Rattle.reading.proofs.States.{stack_tokens, state_tokens}
use Rattle.reading.proofs.Tokens.{Lexed}
use Rattle.reading.specs.declared.fault.SheetFault.{SheetFault}
use Rattle.reading.specs.declared.fault.SheetFault.TheVariants.{Text, Repeated, Headless, Doubled, Unbound}
use Rattle.sheet_reading.specs.Values.{Grid}
use Rattle.sheet_reading.specs.Sheet.{Limits, limits, sheet_text}
use Rattle.sheet_reading.specs.Sides.{Hand, on_left, on_right, symbols_before, depth, room, in_text, side_step}
use Rattle.sheet_reading.specs.Reading.{is_mark, Stand, in_heading, wants_value, has_value, has_word, in_rule, headed, ends_side, sheet_step}
use Rattle.sheet_reading.specs.Laws.{count, symbol, mark, side_end, names_on, hand_tokens, HandTerm, InSide, BeyondLimit, many_names, many_rules, many_symbols, many_levels, NoneBeyond}
use Rattle.sheet_reading.proofs.Counting.{count_append, symbols_so_far, open_so_far, unended_term}
use Rattle.sheet_reading.proofs.Stands.{reach, start, before_side, stand_tokens, front_tokens, grid_tokens, value_tok, the_word, sheet_tokens, sheet_of, names_blanked}
use Rattle.sheet_reading.proofs.Goods.{Good, Ruled}
use Rattle.sheet_reading.proofs.Ruling.{Early, none_begins}
use Rattle.sheet_reading.proofs.Telling.{tells}
use Rattle.sheet_reading.proofs.Miscounting.{free, freed}
use Rattle.sheet_reading.proofs.Stuck.{is_behind}
use Rattle.sheet_reading.proofs.Back.{behind_sheet}
use Rattle.sheet_reading.proofs.SideStates.{ContextShaped, StateShaped}

no_mark : (m : Mark) (k : Tok) → mark m k ≡ 0 → is_mark m k ≡ false
no_mark m k = cond_both (is_mark m k) 1 0 (λ n. n ≡ 0 → is_mark m k ≡ false) (λ _ h. absurd (omega arith)) (λ e _. e)

all_first : (P : Tok → Type 0) (ks js : List Tok) → AllByRecursion P (ks ++ js) → AllByRecursion P ks
all_first P [] js h = tt
all_first P (k ∷ ks) js h = (h.0, all_first P ks js h.1)

-- the same hand, the left side beside it aside
abbrev pub SameHand : Hand → Hand → Type 0
SameHand on_left on_left = Unit {0}
SameHand on_left (on_right l) = ⊥
SameHand (on_right l) on_left = ⊥
SameHand (on_right l) (on_right t) = Unit {0}

-- tokens that do not end a side are read on in that side

module _ (n : Limits) (sig : Sig) (grid : Grid) (rules : List Rule) where
  abbrev rule : Hand → State → Stand
  rule d s = in_rule sig grid rules d s

  -- one state behind another of a side, with the tokens read as terms are
  abbrev Reads : Hand → State → At → List Tok → Stand → Type 0
  Reads d s at ks u = (v : State) × (u ≡ rule d v) × (reach_with (free sig) s at ks ≡ Ok v)

  chained : (d : Hand) (s : State) (at : At) (k : Tok) (u : Stand) → chain (side_step n sig (length rules) d s at k) (λ v. Ok (rule d v)) ≡ Ok u → (v : State) × (u ≡ rule d v) × (free sig s at k ≡ Ok v)
  chained d s at k u e = let (v, p, q) = chain_ok (side_step n sig (length rules) d s at k) _ u e in (v, sym (same_ok q), freed n sig (length rules) d s at k v p)

  no_end : (d : Hand) (k : Tok) → side_end k ≡ 0 → ends_side d k ≡ false
  no_end on_left k h = no_mark Equals k (omega arith)
  no_end (on_right l) k h = no_mark LineEnd k (omega arith)

  on_in_side : (d : Hand) (s : State) (at : At) (k : Tok) (u : Stand) → side_end k ≡ 0 → sheet_step n (rule d s) at k ≡ Ok u → (v : State) × (u ≡ rule d v) × (free sig s at k ≡ Ok v)
  on_in_side d (wants c) at k u h e = chained d (wants c) at k u e
  on_in_side d (opens f a i c) at k u h e = chained d (opens f a i c) at k u e
  on_in_side d (has t b top) at k u h e = chained d (has t b top) at k u (sym (cond-false (ends_side d k) _ _ (no_end d k h)) ∙ e)
  on_in_side d (has t b (within f a ts i c)) at k u h e = chained d (has t b (within f a ts i c)) at k u e

  stays_in_side : (d : Hand) (ks : List Tok) (s : State) (at : At) (u : Stand) → count side_end ks ≡ 0 → reach n (rule d s) at ks ≡ Ok u → Reads d s at ks u
  stays_in_side d [] s at u h e = (s, sym (same_ok e), refl)
  stays_in_side d (k ∷ ks) s at u h e =
      let (x, p, q) = reach_first (sheet_step n) (rule d s) at k ks u e in
      let (v, r, f) = on_in_side d s at k x (omega arith) p in
      let (w, i, j) = stays_in_side d ks v (past at k) u (omega arith) (subst (λ y. reach n y (past at k) ks ≡ Ok u) r q) in
      (w, i, then_reach (free sig) s at k ks v f ∙ j)

  -- '=' ends a left side
  behind_equals : (s : State) (at : At) (u : Stand) → sheet_step n (rule on_left s) at (a_mark Equals) ≡ Ok u → (l : Term) × (u ≡ rule (on_right l) (wants top))
  behind_equals (wants c) at u e = not_both (sym e)
  behind_equals (opens f a i c) at u e = not_both (sym e)
  behind_equals (has t b top) at u e = (t, sym (same_ok e))
  behind_equals (has t b (within f a ts i c)) at u e = not_both (sym e)

  behind_hand : (d : Hand) (at : At) (u : Stand) → Declared sig → HandTerm sig d → reach n (rule on_left (wants top)) at (hand_tokens sig d) ≡ Ok u → (h : Hand) × SameHand d h × (u ≡ rule h (wants top))
  behind_hand on_left at u good h e = (on_left, tt, sym (same_ok e))
  behind_hand (on_right l) at u good h e =
      let ks : List Tok = tokens (text_of sig l) in
      let (v, p, q) = reach_split (sheet_step n) (rule on_left (wants top)) at ks (a_mark Equals ∷ []) u e in
      let (s, r, _) = stays_in_side on_left ks (wants top) at v (unended_term good l h) p in
      let (w, i, j) = reach_first (sheet_step n) v (passed at ks) (a_mark Equals) [] u q in
      let (t, c) = behind_equals s (passed at ks) w (subst (λ x. sheet_step n x (passed at ks) (a_mark Equals) ≡ Ok w) r i) in
      (on_right t, tt, sym (same_ok j) ∙ c)

-- where the reading stands in a side
pub record StandsIn (s : Stand) {ks : List Tok} (z : InSide ks) : Type 0 where
  pub hand : Hand
  pub state : State
  pub stand : s ≡ in_rule z.sheet.operators z.sheet.values z.sheet.rules hand state
  pub alike : SameHand z.hand hand
  pub place : At
  pub freely : reach_with (free z.sheet.operators) (wants top) place z.side ≡ Ok state
  pub so_far : state_tokens z.sheet.operators state ≡ z.side

early_on : {A B : Type 0} (r : Result A SheetFault) (f : A → Result B SheetFault) → Early r → Early (chain r f)
early_on (Ok u) f h = absurd h
early_on (Err (Text e)) f h = tt
early_on (Err (Repeated a)) f h = h
early_on (Err (Headless a)) f h = h
early_on (Err (Doubled a)) f h = h
early_on (Err (Unbound a)) f h = h

-- a symbol stands where a term may begin, and nowhere else

symbol_open : (k : Tok) → symbol k ≡ 1 → side_end k ≡ 0
symbol_open (a_name s) h = refl
symbol_open (a_number s) h = refl
symbol_open (an_instrument s) h = refl
symbol_open (a_variable x) h = refl
symbol_open (a_mark m) h = absurd (omega arith)
symbol_open (a_stray b) h = refl

early_opens : (k : Tok) (at : At) (f : ℕ) (a : At) (n : ℕ) (c : Context) → symbol k ≡ 1 → Early (in_text (on_opens k at f a n c))
early_opens (a_name s) at f a n c h = tt
early_opens (a_number s) at f a n c h = tt
early_opens (an_instrument s) at f a n c h = tt
early_opens (a_variable x) at f a n c h = tt
early_opens (a_mark m) at f a n c h = absurd (omega arith)
early_opens (a_stray b) at f a n c h = tt

early_has : (k : Tok) (at : At) (t : Term) (b : Option At) (c : Context) → symbol k ≡ 1 → Early (in_text (on_has k at t b c))
early_has (a_name s) at t b c h = tt
early_has (a_number s) at t b c h = tt
early_has (an_instrument s) at t b c h = tt
early_has (a_variable x) at t b c h = tt
early_has (a_mark m) at t b c h = absurd (omega arith)
early_has (a_stray j) at t b c h = tt

pub early_in_side : (m : Limits) (sig : Sig) (grid : Grid) (rules : List Rule) (d : Hand) (s : State) (at : At) (k : Tok) → symbol k ≡ 1 → ((c : Context) → s ≡ wants c → room m (length rules) c ≡ false) → Early (sheet_step m (in_rule sig grid rules d s) at k)
early_in_side m sig grid rules d (wants c) at k h f = early_on (side_step m sig (length rules) d (wants c) at k) _ (none_begins m sig (length rules) d at k c (f c refl))
early_in_side m sig grid rules d (opens o a i c) at k h f = early_on (in_text (on_opens k at o a i c)) _ (early_opens k at o a i c h)
early_in_side m sig grid rules d (has t b top) at k h f = subst Early (sym (cond-false (ends_side d k) _ _ (no_end m sig grid rules d k (symbol_open k h)))) (early_on (in_text (on_has k at t b top)) _ (early_has k at t b top h))
early_in_side m sig grid rules d (has t b (within o a ts i c)) at k h f = early_on (in_text (on_has k at t b (within o a ts i c))) _ (early_has k at t b (within o a ts i c) h)

-- in the line of names

line_ends : (ks : List Tok) → 1 ≤ count (mark LineEnd) (follow ks)
line_ends [] = omega arith
line_ends (k ∷ ks) = omega (arith, line_ends ks)

pub line_ended : (ks js : List Tok) → 1 ≤ count (mark LineEnd) (line ks ++ js)
line_ended [] js = omega arith
line_ended (k ∷ ks) js = omega (arith, count_append (mark LineEnd) (follow ks) js, line_ends ks)

count_names : (sig : Sig) → count symbol (names_on sig) ≡ length sig
count_names [] = refl
count_names (o ∷ os) = omega (arith, count_names os)

names_unended : (sig : Sig) → count (mark LineEnd) (names_on sig) ≡ 0
names_unended [] = refl
names_unended (o ∷ os) = omega (arith, names_unended os)

heading_ended : (sig : Sig) (js : List Tok) → 1 ≤ count (mark LineEnd) (heading_tokens sig ++ js)
heading_ended sig js = omega (arith, count_append (mark LineEnd) (heading_tokens sig) js, line_ended (map name_tok sig) (line (map count_tok sig)))

pub front_ended : (sig : Sig) (grid : Grid) (js : List Tok) → 1 ≤ count (mark LineEnd) (front_tokens sig grid ++ js)
front_ended sig grid js = omega (arith, count_append (mark LineEnd) (front_tokens sig grid) js, heading_ended sig (grid_tokens grid))

pub rule_ended : (sig : Sig) (grid : Grid) (rules : List Rule) (d : Hand) (js : List Tok) → 1 ≤ count (mark LineEnd) (before_side sig grid rules d ++ js)
rule_ended sig grid rules d js =
    let ks : List Tok = sheet_tokens (sheet_of sig grid rules) in
    let front : 1 ≤ count (mark LineEnd) ks = front_ended sig grid _ in
    omega (arith, count_append (mark LineEnd) (before_side sig grid rules d) js, count_append (mark LineEnd) ks (hand_tokens sig d))

module _ (k : Tok) (one : symbol k ≡ 1) (at : At) where
  early_name : (o : Sig) (j : Tok) → symbol j ≡ 1 → 32 ≤ length o → Early (sheet_step limits (in_heading (o, WantsName)) at j)
  early_name o (a_name s) h l = subst (λ (r : Outcome). Early (chain r (λ g. Ok (headed g)))) (sym (cond-true (leb 32 (length o)) _ _ (le-leb 32 (length o) l))) tt
  early_name o (a_number s) h l = tt
  early_name o (an_instrument s) h l = tt
  early_name o (a_variable x) h l = tt
  early_name o (a_mark m) h l = tt
  early_name o (a_stray b) h l = tt

  early_behind_name : (o : Sig) (j : Tok) → symbol j ≡ 1 → Early (sheet_step limits (in_heading (o, HasName)) at j)
  early_behind_name o (a_name s) h = tt
  early_behind_name o (a_number s) h = tt
  early_behind_name o (an_instrument s) h = tt
  early_behind_name o (a_variable x) h = tt
  early_behind_name o (a_mark m) h = absurd (omega arith)
  early_behind_name o (a_stray b) h = tt

  -- behind 32 names and a blank
  early_names : (s : Stand) (sig : Sig) → length sig ≡ 32 → stand_tokens s ≡ names_on sig → Early (sheet_step limits s at k)
  early_names (in_heading (o, WantsName)) sig l e = early_name o k one (omega (arith, count_names sig, count_names o, ap (count symbol) (names_blanked o), ap (count symbol) e))
  early_names (in_heading (o, HasName)) sig l e = early_behind_name o k one
  early_names (in_heading (o, WantsCount f)) sig l e = absurd (omega (arith, names_unended sig, ap (count (mark LineEnd)) e, line_ended (map name_tok o) (blanked (map count_tok (take f o)))))
  early_names (in_heading (o, HasCount f)) sig l e = absurd (omega (arith, names_unended sig, ap (count (mark LineEnd)) e, line_ended (map name_tok o) (spaced (map count_tok (take (suc f) o)))))
  early_names (in_heading (o, Done)) sig l e = absurd (omega (arith, names_unended sig, ap (count (mark LineEnd)) e, line_ended (map name_tok o) (line (map count_tok o))))
  early_names (wants_value o grid vs) sig l e = absurd (omega (arith, names_unended sig, ap (count (mark LineEnd)) e, front_ended o grid (blanked (map value_tok vs))))
  early_names (has_value o grid vs) sig l e = absurd (omega (arith, names_unended sig, ap (count (mark LineEnd)) e, front_ended o grid (spaced (map value_tok vs))))
  early_names (has_word o grid) sig l e = absurd (omega (arith, names_unended sig, ap (count (mark LineEnd)) e, front_ended o grid (the_word ∷ [])))
  early_names (in_rule o grid rules d s) sig l e = absurd (omega (arith, names_unended sig, ap (count (mark LineEnd)) e, rule_ended o grid rules d (state_tokens o s)))

module _ (ks : List Tok) (s : Stand) (lexed : AllByRecursion Lexed ks) (there : reach limits start origin ks ≡ Ok s) where
  pub stands_in : (z : InSide ks) → StandsIn s z
  stands_in z =
      let sig : Sig = z.sheet.operators in
      let grid : Grid = z.sheet.values in
      let rules : List Rule = z.sheet.rules in
      let base : List Tok = tokens (sheet_text z.sheet) in
      let earlier : List Tok = base ++ hand_tokens sig z.hand in
      let (v, p, q) = reach_split (sheet_step limits) start origin earlier z.side s (ap (reach limits start origin) (sym z.stands) ∙ there) in
      let (w, i, j) = reach_split (sheet_step limits) start origin base (hand_tokens sig z.hand) v p in
      let begun : w ≡ behind_sheet z.sheet = is_behind base w i z.sheet z.shaped refl in
      let (d, alike, here) = behind_hand limits sig grid rules z.hand (passed origin base) v z.shaped.declared z.left (subst (λ x. reach limits x (passed origin base) (hand_tokens sig z.hand) ≡ Ok v) begun j) in
      let (t, stand, freely) = stays_in_side limits sig grid rules d z.side (wants top) (passed origin earlier) s z.unended (subst (λ x. reach limits x (passed origin earlier) z.side ≡ Ok s) here q) in
      let read : before_side sig grid rules d ++ [] ≡ earlier = sym (ap stand_tokens here) ∙ (tells earlier v (all_first Lexed earlier z.side (subst (AllByRecursion Lexed) z.stands lexed)) p).so_far in
      let all : before_side sig grid rules d ++ state_tokens sig t ≡ earlier ++ z.side = sym (ap stand_tokens stand) ∙ (tells ks s lexed there).so_far ∙ z.stands in
      record {
        hand = d;
        state = t;
        stand = stand;
        alike = alike;
        place = passed origin earlier;
        freely = freely;
        so_far = append_cancel_left earlier (state_tokens sig t) z.side (ap (λ x. x ++ state_tokens sig t) (sym read ∙ append-nil _) ∙ all);
      }

  -- what stands on a limit
  module _ (k : Tok) (one : symbol k ≡ 1) (at : At) where
    early_full : (z : InSide ks) → ((before : List Tok) (c : Context) → ContextShaped z.sheet.operators before c → stack_tokens z.sheet.operators c ≡ z.side → room limits (length z.sheet.rules) c ≡ false) → Early (sheet_step limits s at k)
    early_full z f =
        let y = stands_in z in
        let sig : Sig = z.sheet.operators in
        let good : Good s = (tells ks s lexed there).is_good in
        let ruled : Ruled sig z.sheet.values z.sheet.rules y.hand y.state = subst Good y.stand good in
        let earlier : List Tok = before_side sig z.sheet.values z.sheet.rules y.hand in
        let shaped : StateShaped sig earlier y.state = ruled.side.begun.shaped in
        subst (λ x. Early (sheet_step limits x at k)) (sym y.stand)
        (early_in_side limits sig z.sheet.values z.sheet.rules y.hand y.state at k one
        (λ c e. f earlier c (subst (StateShaped sig earlier) e shaped) (sym (ap (state_tokens sig) e) ∙ y.so_far)))

    pub early : BeyondLimit ks → Early (sheet_step limits s at k)
    early (many_names sig good l e) = early_names k one at s sig l ((tells ks s lexed there).so_far ∙ e)
    early (many_rules t h l e) = subst (λ x. Early (sheet_step limits x at k)) (sym (is_behind ks s there t h (sym e)))
        (early_in_side limits t.operators t.values t.rules on_left (wants top) at k one (λ c _. and_left (ltb (length t.rules) 32) _ (le-ltb (length t.rules) 32 (omega arith))))
    early (many_symbols z e) = early_full z (λ before c h q.
        and_right (ltb (length z.sheet.rules) 32) _ (and_left (ltb (symbols_before c) 32) _ (le-ltb (symbols_before c) 32 (omega (arith, symbols_so_far z.shaped.declared before c h, ap (count symbol) q)))))
    early (many_levels z e) = early_full z (λ before c h q.
        and_right (ltb (length z.sheet.rules) 32) _ (and_right (ltb (symbols_before c) 32) _ (le-ltb (depth c) 16 (omega (arith, open_so_far z.shaped.declared before c h, ap (count (mark Opening)) q, ap (count (mark Closing)) q)))))

-- where a symbol is read on, it is not past a limit
pub none_beyond : (ks : List Tok) (s : Stand) → AllByRecursion Lexed ks → reach limits start origin ks ≡ Ok s → NoneBeyond ks
none_beyond ks s lexed there before k behind e one h =
    let (v, p, q) = reach_split (sheet_step limits) start origin before (k ∷ behind) s (ap (reach limits start origin) (sym e) ∙ there) in
    let (u, i, j) = reach_first (sheet_step limits) v (passed origin before) k behind s q in
    subst Early i (early before v (all_first Lexed before (k ∷ behind) (subst (AllByRecursion Lexed) e lexed)) p k one (passed origin before) h)
