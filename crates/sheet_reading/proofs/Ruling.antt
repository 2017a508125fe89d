-- One token in a rule.
use Rattle.std.proofs.Common.{◌≡◌, ℕ, true, false, ltb, List, [], ◌∷◌, ◌++◌, length, Some, Ok, Err, Option, Result, sym, refl, ap, ◌∙◌, subst, inl, inr, ⊎_elim, append_assoc, append-nil, arith}
use Rattle.std.proofs.ByRecursion.{All-push}
use Rattle.std.proofs.lemmas.List.{length_push}
use Rattle.std.proofs.lemmas.Bool.{cond_both, cond-false, and_left, le-ltb}
use Rattle.terms.specs.Term.{Term}
use Rattle.terms.specs.Rule.{Rule, RuleOf}
use Rattle.terms.specs.Signature.{Sig, found}
use Rattle.terms.specs.Text.{text_of}
use Rattle.reading.specs.declared.token.At.{At}
use Rattle.reading.specs.declared.token.Mark.TheVariants.{Equals, LineEnd}
use Rattle.reading.specs.declared.fault.TextFault.{TextFault}
use Rattle.reading.specs.declared.fault.TextFault.TheVariants.{Stray, BadNumber, Unexpected, Undeclared, WrongArity, PastLimit}
use Rattle.reading.specs.Tokens.{Tok, a_name, a_number, an_instrument, a_variable, a_mark, a_stray, tokens}
use Rattle.reading.specs.Numbers.{instrument_number}
use Rattle.reading.specs.Reading.{Context, top, within, State, wants, opens, has, with_name, with_number, chain}
use Rattle.reading.proofs.States.{state_tokens}
use Rattle.reading.specs.declared.fault.SheetFault.{SheetFault}
use Rattle.reading.specs.declared.fault.SheetFault.TheVariants.{Text, Repeated, Headless, Doubled, Unbound}
use Rattle.sheet_reading.specs.Values.{Grid}
use Rattle.sheet_reading.specs.Sheet.{SheetShaped, Limits, limits}
use Rattle.sheet_reading.specs.Sides.{Hand, on_left, on_right, room, within_room, in_text, fronted, variable_on, side_step}
use Rattle.sheet_reading.specs.Reading.{in_rule, Move, ends_side, behind_side, in_side, on_rule}
use Rattle.sheet_reading.specs.Laws.{Behind, Miscounted, WholeSheet, BeyondLimit, many_rules, many_symbols, many_levels, hand_tokens, HandTerm, InSide}
use Rattle.reading.specs.Laws.{Wrong}
use Rattle.reading.proofs.Tokens.{Lexed}
use Rattle.sheet_reading.proofs.SideFacts.{LeftShaped, RightShaped, TextReason, SideReason}
use Rattle.sheet_reading.proofs.Counting.{unended_so_far}
use Rattle.sheet_reading.proofs.Stands.{front_tokens, the_word, rule_tokens, rules_tokens, rules_push, sheet_tokens, sheet_of, before_side, stand_tokens}
use Rattle.sheet_reading.proofs.Written.{tokens_sheet}
use Rattle.sheet_reading.proofs.Causes.{TextCause, Cause}
use Rattle.sheet_reading.proofs.SideTelling.{Tells, tells, starts}
use Rattle.sheet_reading.proofs.SideCompleting.{ended}
use Rattle.sheet_reading.proofs.Goods.{HandGood, Ruled, Said}
use Rattle.sheet_reading.proofs.Valuing.{mark_is}

-- where no symbol has room, none is accepted, and what is refused there is not refused for a fault of the sheet

abbrev pub Early : {A : Type 0} → Result A SheetFault → Type 0
Early (Ok u) = ⊥
Early (Err (Text f)) = Unit {0}
Early (Err (Repeated at)) = ⊥
Early (Err (Headless at)) = ⊥
Early (Err (Doubled at)) = ⊥
Early (Err (Unbound at)) = ⊥

shut : (m : Limits) (rules : ℕ) (c : Context) (at : At) (r : Result State TextFault) (g : State → Result State SheetFault) → room m rules c ≡ false → Early (chain (in_text r) (λ u. within_room m rules c at (g u)))
shut m rules c at (Ok u) g h = subst Early (sym (cond-false (room m rules c) (g u) (Err (Text (PastLimit at))) h)) tt
shut m rules c at (Err f) g h = tt

pub none_begins : (m : Limits) (sig : Sig) (rules : ℕ) (d : Hand) (at : At) (k : Tok) (c : Context) → room m rules c ≡ false → Early (side_step m sig rules d (wants c) at k)
none_begins m sig rules d at (a_name s) c h = shut m rules c at (with_name sig (found sig s) at c) (λ u. Ok u) h
none_begins m sig rules d at (a_number s) c h = tt
none_begins m sig rules d at (an_instrument s) c h = shut m rules c at (with_number (instrument_number s) at c) (λ u. fronted d c at u) h
none_begins m sig rules d at (a_variable x) c h = shut m rules c at (Ok (wants c)) (λ _. chain (fronted d c at (wants c)) (λ _. variable_on d x c at)) h
none_begins m sig rules d at (a_mark j) c h = tt
none_begins m sig rules d at (a_stray b) c h = tt

never_wants : {B : Type 0} {t : Term} {b : Option At} → has t b top ≡ wants top → B
never_wants e = absurd (let z : ◌≡◌ {A = ℕ} 0 1 = cc in omega arith)

pub never_left : {B : Type 0} {l : Term} → on_right l ≡ on_left → B
never_left e = absurd (let z : ◌≡◌ {A = ℕ} 0 1 = cc in omega arith)

pub never_right : {B : Type 0} {l : Term} → on_left ≡ on_right l → B
never_right e = absurd (let z : ◌≡◌ {A = ℕ} 0 1 = cc in omega arith)

-- what stands before a side, and the side so far

abbrev hand_left : (sig : Sig) (d : Hand) → HandGood sig d → HandTerm sig d
hand_left sig on_left h = tt
hand_left sig (on_right l) h = h.0.is_term

module _ (sig : Sig) (grid : Grid) (rules : List Rule) (d : Hand) (s : State) (g : Ruled sig grid rules d s) where
  abbrev so_far : List Tok
  so_far = before_side sig grid rules d ++ state_tokens sig s

  abbrev pub place : InSide so_far
  place = record {
    sheet = sheet_of sig grid rules;
    shaped = g.shaped;
    hand = d;
    left = hand_left sig d g.hand;
    side = state_tokens sig s;
    unended = unended_so_far g.shaped.declared (before_side sig grid rules d) s g.side.begun.shaped;
    stands = ap (λ ks. (ks ++ hand_tokens sig d) ++ state_tokens sig s) (sym (tokens_sheet (sheet_of sig grid rules) g.shaped));
  }

  pub miscounted : (w : Wrong) (a : At) → Miscounted sig (before_side sig grid rules d) (state_tokens sig s) w a → Cause so_far w (Text (WrongArity a))
  miscounted w a r = (place, subst (λ ks. Miscounted sig ks (state_tokens sig s) w a) (ap (λ ks. ks ++ hand_tokens sig d) (sym (tokens_sheet (sheet_of sig grid rules) g.shaped))) r)

  abbrev whole_sheet : d ≡ on_left → s ≡ wants top → WholeSheet so_far
  whole_sheet p q = (sheet_of sig grid rules, g.shaped, tokens_sheet (sheet_of sig grid rules) g.shaped ∙ sym ((λ i. before_side sig grid rules (p i) ++ state_tokens sig (q i)) ∙ append-nil _ ∙ append-nil _))

  -- causes

  past_limit : (at : At) (k : Tok) → TextReason limits sig (length rules) (before_side sig grid rules d) (state_tokens sig s) at k (PastLimit at) → BeyondLimit so_far
  past_limit at k r =
      ⊎_elim
      (λ e. let full : length rules ≡ 32 = omega (arith, g.within.few_rules) in
      let (p, q) = g.last full in
      many_rules (sheet_of sig grid rules) g.shaped full (sym (whole_sheet p q).2))
      (λ z. ⊎_elim (λ e. many_symbols place e) (λ e. many_levels place e) z)
      r.2

  module _ (at : At) (k : Tok) (p : Behind so_far at) where
    text_cause : (f : TextFault) → TextReason limits sig (length rules) (before_side sig grid rules d) (state_tokens sig s) at k f → TextCause so_far (Some k) f
    text_cause (Stray a) r = (r.0 ∙ p, (r.1.0, ap Some r.1.1))
    text_cause (BadNumber a) r = (r.0 ∙ p, (r.1.0, ⊎_elim (λ e. inl (ap Some e)) (λ e. inr (ap Some e)) r.1.1))
    text_cause (Unexpected a) r = r ∙ p
    text_cause (Undeclared a) r = (r.0 ∙ p, (place, r.1.0, ap Some r.1.1, r.1.2))
    text_cause (WrongArity a) r = miscounted (Some k) a r
    text_cause (PastLimit a) r = (r.0 ∙ p, past_limit at k (refl, r.1, r.2), (k, refl, r.1))

    side_cause : (f : SheetFault) → SideReason limits sig (length rules) d (before_side sig grid rules d) s at k f → Cause so_far (Some k) f
    side_cause (Text f) r = text_cause f r
    side_cause (Repeated a) r = absurd r
    side_cause (Headless a) r = (r.0 ∙ p, whole_sheet r.1 r.2)
    side_cause (Doubled a) r = (r.0 ∙ p, (r.2.0, ap Some r.2.1, record { place = place; on_the_left = r.1; among = r.2.2 }))
    side_cause (Unbound a) r =
        let (l, x, e, q, z) = r.1 in
        (r.0 ∙ p, (x, ap Some q, record { place = place; left = l; on_the_right = e; not_among = z }))

-- a whole rule
rule_of : (sig : Sig) (l t : Term) → LeftShaped sig l → RightShaped sig l t → RuleOf sig (record { left = l; right = t })
rule_of sig l t h j = record { left_term = h.is_term; right_term = j.is_term; operator_first = h.operator_first; linear = h.linear; bound = j.bound }

pub shaped_push : (sig : Sig) (grid : Grid) (rules : List Rule) (l t : Term) → SheetShaped (sheet_of sig grid rules) → LeftShaped sig l → RightShaped sig l t → SheetShaped (sheet_of sig grid (rules ++ (record { left = l; right = t } ∷ [])))
shaped_push sig grid rules l t z h j = record { declared = z.declared; some_operators = z.some_operators; one_or_two = z.one_or_two; in_range = z.in_range; lawful = All-push (RuleOf sig) rules _ z.lawful (rule_of sig l t h j) }

-- its tokens behind the rules before it
pub sheet_push : (sig : Sig) (grid : Grid) (rules : List Rule) (r : Rule) → sheet_tokens (sheet_of sig grid (rules ++ (r ∷ []))) ≡ sheet_tokens (sheet_of sig grid rules) ++ rule_tokens sig r
sheet_push sig grid rules r =
    ap (λ l. front_tokens sig grid ++ (the_word ∷ (a_mark LineEnd ∷ l))) (rules_push sig rules r)
    ∙ sym (append_assoc (front_tokens sig grid) (the_word ∷ (a_mark LineEnd ∷ rules_tokens sig rules)) (rule_tokens sig r))

module _ (sig : Sig) (grid : Grid) (rules : List Rule) (at : At) (k : Tok) where
  abbrev Answer : Hand → State → Move → Type 0
  Answer d s r = Said (in_rule sig grid rules d s) k r

  abbrev Here : Hand → State → Type 0
  Here d s = Behind (stand_tokens (in_rule sig grid rules d s)) at

  -- inside a side
  said_side : (d : Hand) (s : State) → Ruled sig grid rules d s → Here d s → (r : Result State SheetFault) → side_step limits sig (length rules) d s at k ≡ r → Tells sig limits (length rules) (before_side sig grid rules d) d s at k r
      → Answer d s (chain r (λ u. Ok (in_rule sig grid rules d u)))
  said_side d s g p (Err f) e z = side_cause sig grid rules d s g at k p f z
  said_side d s g p (Ok u) e z = (
    record {
      shaped = g.shaped;
      within = g.within;
      hand = g.hand;
      side = z.0;
      last = λ full. absurd (let (x, y) = g.last full in let full_up : room limits (length rules) top ≡ false = and_left (ltb (length rules) 32) _ (le-ltb (length rules) 32 (omega arith)) in subst Early ((λ i. side_step limits sig (length rules) d (sym y i) at k) ∙ e) (none_begins limits sig (length rules) d at k top full_up));
    },
    ap (λ x. before_side sig grid rules d ++ x) z.1 ∙ sym (append_assoc (before_side sig grid rules d) (state_tokens sig s) (k ∷ [])),
  )

  said_in_side : (d : Hand) (s : State) → Lexed k → Ruled sig grid rules d s → Here d s → Answer d s (in_side limits sig grid rules d s k at)
  said_in_side d s l g p = said_side d s g p (side_step limits sig (length rules) d s at k) refl (tells g.shaped.declared (before_side sig grid rules d) limits (length rules) d s at k l g.side p)

  -- behind a side
  said_ended : (d : Hand) (t : Term) (b : Option At) → Ruled sig grid rules d (has t b top) → ends_side d k ≡ true → Answer d (has t b top) (Ok (behind_side sig grid rules d t))
  said_ended on_left t b g e =
      let (h, w) = ended g.shaped.declared (before_side sig grid rules on_left) limits on_left t b g.side in (
        record {
          shaped = g.shaped;
          within = g.within;
          hand = (h, w);
          side = starts sig limits (before_side sig grid rules (on_right t)) (on_right t);
          last = λ full. never_wants (g.last full).1;
        },
        append-nil _ ∙ ap (λ x. sheet_tokens (sheet_of sig grid rules) ++ (tokens (text_of sig t) ++ (x ∷ []))) (sym (mark_is Equals k e))
            ∙ sym (append_assoc (sheet_tokens (sheet_of sig grid rules)) (tokens (text_of sig t)) (k ∷ []))
            ∙ ap (λ x. (x ++ tokens (text_of sig t)) ++ (k ∷ [])) (sym (append-nil (sheet_tokens (sheet_of sig grid rules)))),
      )
  said_ended (on_right l) t b g e =
      let (h, w) = ended g.shaped.declared (before_side sig grid rules (on_right l)) limits (on_right l) t b g.side in
      let r : Rule = record { left = l; right = t } in (
        record {
          shaped = shaped_push sig grid rules l t g.shaped g.hand.0 h;
          within = record {
            few_operators = g.within.few_operators;
            few_rules = omega (arith, length_push rules r, g.within.few_rules, room);
            small_sides = All-push _ rules r g.within.small_sides (g.hand.1, w);
          };
          hand = tt;
          side = starts sig limits (before_side sig grid (rules ++ (r ∷ [])) on_left) on_left;
          last = λ _. (refl, refl);
        },
        append-nil _ ∙ append-nil _ ∙ sheet_push sig grid rules r
            ∙ ap (λ x. sheet_tokens (sheet_of sig grid rules) ++ (tokens (text_of sig l) ++ (a_mark Equals ∷ (tokens (text_of sig t) ++ (x ∷ []))))) (sym (mark_is LineEnd k e))
            ∙ regroup (sheet_tokens (sheet_of sig grid rules)) (tokens (text_of sig l)) (tokens (text_of sig t)),
      )
    where
      room : length rules ≡ 32 → ⊥
      room full = never_left (g.last full).0

      regroup : (x y z : List Tok) → x ++ (y ++ (a_mark Equals ∷ (z ++ (k ∷ [])))) ≡ ((x ++ (y ++ (a_mark Equals ∷ []))) ++ z) ++ (k ∷ [])
      regroup x y z = simp append_assoc

  pub said_rule : (d : Hand) (s : State) → Lexed k → Ruled sig grid rules d s → Here d s → Answer d s (on_rule limits sig grid rules d s k at)
  said_rule d (wants c) l g p = said_in_side d (wants c) l g p
  said_rule d (opens f a n c) l g p = said_in_side d (opens f a n c) l g p
  said_rule d (has t b top) l g p = cond_both (ends_side d k) _ _ (Answer d (has t b top)) (λ e. said_ended d t b g e) (λ _. said_in_side d (has t b top) l g p)
  said_rule d (has t b (within f a ts n c)) l g p = said_in_side d (has t b (within f a ts n c)) l g p
