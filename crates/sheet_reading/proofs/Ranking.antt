-- How late the fault goes that a stand gives.
use Rattle.std.proofs.Common.{◌≡◌, ℕ, zero, suc, ◌<◌, ◌≤◌, false, cond, ◌&&◌, ltb, leb, List, length, Some, None, Ok, Err, codes, Option, Result, Bool, sym, refl, ap, ◌∙◌, subst, arith}
use Rattle.std.proofs.lemmas.Bool.{both_ways, cond_both, ltb-true}
use Rattle.terms.specs.Term.{Term, instrument}
use Rattle.terms.specs.Rule.{Rule}
use Rattle.terms.specs.Signature.{Sig, op_of, found}
use Rattle.terms.specs.Substitution.{occurrences}
use Rattle.reading.specs.declared.token.At.{At}
use Rattle.reading.specs.declared.token.Mark.{Mark}
use Rattle.reading.specs.declared.token.Mark.TheVariants.{Opening, Closing, Comma, Equals, Dash, Blank, LineEnd}
use Rattle.reading.specs.declared.heading.Stage.TheVariants.{WantsName, HasName, WantsCount, HasCount, Done}
use Rattle.reading.specs.declared.fault.TextFault.{TextFault}
use Rattle.reading.specs.declared.fault.TextFault.TheVariants.{Stray, BadNumber, Unexpected, Undeclared, WrongArity, PastLimit}
use Rattle.reading.specs.declared.fault.SheetFault.{SheetFault}
use Rattle.reading.specs.declared.fault.SheetFault.TheVariants.{Text, Repeated, Headless, Doubled, Unbound}
use Rattle.reading.specs.Tokens.{Tok, a_name, a_number, an_instrument, a_variable, a_mark, a_stray}
use Rattle.reading.specs.Numbers.{plain, numbered, instrument_number}
use Rattle.reading.specs.Reading.{Context, top, within, State, wants, opens, has, unless_some, fault_of, with_name, with_number, on_opens_mark, on_has_mark, on_opens, on_has, chain}
use Rattle.reading.specs.Heading.{named_once, wants_name, has_name_mark, has_name, counted, wants_count, has_count_mark, has_count}
use Rattle.sheet_reading.specs.Values.{Grid, Value, range_of}
use Rattle.sheet_reading.specs.Sheet.{limits}
use Rattle.sheet_reading.specs.Sides.{Hand, on_left, on_right, occurrences_before, room, within_room, in_text, fronted, variable_on, side_step}
use Rattle.sheet_reading.specs.Reading.{is_mark, is_word, Stand, in_heading, wants_value, has_value, has_word, in_rule, from_least, value_of, rules_may_come, ends_side, sheet_step}
use Rattle.sheet_reading.specs.Laws.{symbol, rank}
use Rattle.sheet_reading.proofs.Ruling.{Early, never_right}

-- a fault, if there is one, has such a rank
abbrev pub Ranks : {A : Type 0} → (ℕ → Type 0) → Result A SheetFault → Type 0
Ranks P (Ok u) = Unit {0}
Ranks P (Err f) = P (rank f)

pub ranks_on : {A B : Type 0} (P : ℕ → Type 0) (r : Result A SheetFault) (f : A → Result B SheetFault) → Ranks P r → ((u : A) → Ranks P (f u)) → Ranks P (chain r f)
ranks_on P (Ok u) f h g = g u
ranks_on P (Err e) f h g = h

pub ranks_cond : {A : Type 0} (P : ℕ → Type 0) (b : Bool) (x y : Result A SheetFault) → Ranks P x → Ranks P y → Ranks P (cond b x y)
ranks_cond P b x y h g = cond_both b x y (Ranks P) (λ _. h) (λ _. g)

pub early_rank : {A : Type 0} (r : Result A SheetFault) → Early r → Ranks (λ n. n ≤ 6) r
early_rank (Ok u) h = tt
early_rank (Err (Text (Stray a))) h = omega arith
early_rank (Err (Text (BadNumber a))) h = omega arith
early_rank (Err (Text (Unexpected a))) h = omega arith
early_rank (Err (Text (Undeclared a))) h = omega arith
early_rank (Err (Text (WrongArity a))) h = omega arith
early_rank (Err (Text (PastLimit a))) h = omega arith
early_rank (Err (Repeated a)) h = absurd h
early_rank (Err (Headless a)) h = absurd h
early_rank (Err (Doubled a)) h = absurd h
early_rank (Err (Unbound a)) h = absurd h

pub rank_most : (f : SheetFault) → rank f ≤ 10
rank_most (Text (Stray a)) = omega arith
rank_most (Text (BadNumber a)) = omega arith
rank_most (Text (Unexpected a)) = omega arith
rank_most (Text (Undeclared a)) = omega arith
rank_most (Text (WrongArity a)) = omega arith
rank_most (Text (PastLimit a)) = omega arith
rank_most (Repeated a) = omega arith
rank_most (Headless a) = omega arith
rank_most (Doubled a) = omega arith
rank_most (Unbound a) = omega arith

-- any stand, by what it does with a token of its own; else the token is not allowed

module _ (P : ℕ → Type 0) (k : Tok) (at : At) where
  abbrev pub NotHere : Type 0
  NotHere = P (rank (Text (fault_of k at (Unexpected at))))

  pub record ByStand (s : Stand) : Type 0 where
    pub not_here : NotHere
    pub on_name : (sig : Sig) → s ≡ in_heading (sig, WantsName) → Ranks P (wants_name 32 k sig at)
    pub on_count : (sig : Sig) (f : ℕ) → s ≡ in_heading (sig, WantsCount f) → Ranks P (wants_count k sig f at)
    pub on_value : (sig : Sig) (grid : Grid) (vs : List Value) → s ≡ wants_value sig grid vs → length grid < 8 → Ranks P (value_of (range_of (length grid) (op_of sig (length vs)).arity) k at)
    pub on_side : (sig : Sig) (grid : Grid) (rules : List Rule) (d : Hand) (t : State) → s ≡ in_rule sig grid rules d t → Ranks P (side_step limits sig (length rules) d t at k)

module _ (P : ℕ → Type 0) (at : At) where
  mark_has_name : (m : Mark) (sig : Sig) → NotHere P (a_mark m) at → Ranks P (has_name_mark m sig at)
  mark_has_name Opening sig h = h
  mark_has_name Closing sig h = h
  mark_has_name Comma sig h = h
  mark_has_name Equals sig h = h
  mark_has_name Dash sig h = h
  mark_has_name Blank sig h = tt
  mark_has_name LineEnd sig h = tt

  ranks_has_name : (k : Tok) (sig : Sig) → NotHere P k at → Ranks P (has_name k sig at)
  ranks_has_name (a_name s) sig h = h
  ranks_has_name (a_number s) sig h = h
  ranks_has_name (an_instrument s) sig h = h
  ranks_has_name (a_variable x) sig h = h
  ranks_has_name (a_mark m) sig h = mark_has_name m sig h
  ranks_has_name (a_stray b) sig h = h

  mark_has_count : (m : Mark) (sig : Sig) (f : ℕ) → NotHere P (a_mark m) at → Ranks P (has_count_mark m sig f at)
  mark_has_count Opening sig f h = h
  mark_has_count Closing sig f h = h
  mark_has_count Comma sig f h = h
  mark_has_count Equals sig f h = h
  mark_has_count Dash sig f h = h
  mark_has_count Blank sig f h = ranks_cond P (ltb (suc f) (length sig)) _ _ tt h
  mark_has_count LineEnd sig f h = ranks_cond P (ltb (suc f) (length sig)) _ _ h tt

  ranks_has_count : (k : Tok) (sig : Sig) (f : ℕ) → NotHere P k at → Ranks P (has_count k sig f at)
  ranks_has_count (a_name s) sig f h = h
  ranks_has_count (a_number s) sig f h = h
  ranks_has_count (an_instrument s) sig f h = h
  ranks_has_count (a_variable x) sig f h = h
  ranks_has_count (a_mark m) sig f h = mark_has_count m sig f h
  ranks_has_count (a_stray b) sig f h = h

  pub ranks_rule : (k : Tok) (sig : Sig) (grid : Grid) (rules : List Rule) (d : Hand) (s : State) → Ranks P (side_step limits sig (length rules) d s at k) → Ranks P (sheet_step limits (in_rule sig grid rules d s) at k)
  ranks_rule k sig grid rules d (wants c) h = ranks_on P (side_step limits sig (length rules) d (wants c) at k) _ h (λ u. tt)
  ranks_rule k sig grid rules d (opens f a n c) h = ranks_on P (side_step limits sig (length rules) d (opens f a n c) at k) _ h (λ u. tt)
  ranks_rule k sig grid rules d (has t b top) h = ranks_cond P (ends_side d k) _ _ tt (ranks_on P (side_step limits sig (length rules) d (has t b top) at k) _ h (λ u. tt))
  ranks_rule k sig grid rules d (has t b (within f a ts n c)) h = ranks_on P (side_step limits sig (length rules) d (has t b (within f a ts n c)) at k) _ h (λ u. tt)

  pub by_stand : (k : Tok) (s : Stand) → ByStand P k at s → Ranks P (sheet_step limits s at k)
  by_stand k (in_heading (sig, WantsName)) c = ranks_on P (wants_name 32 k sig at) _ (c.on_name sig refl) (λ u. tt)
  by_stand k (in_heading (sig, HasName)) c = ranks_on P (has_name k sig at) _ (ranks_has_name k sig c.not_here) (λ u. tt)
  by_stand k (in_heading (sig, WantsCount f)) c = ranks_on P (wants_count k sig f at) _ (c.on_count sig f refl) (λ u. tt)
  by_stand k (in_heading (sig, HasCount f)) c = ranks_on P (has_count k sig f at) _ (ranks_has_count k sig f c.not_here) (λ u. tt)
  by_stand k (in_heading (sig, Done)) c = c.not_here
  by_stand k (wants_value sig grid vs) c =
      ranks_cond P (rules_may_come grid vs && is_word (codes "rules") k) _ _ tt
      (cond_both (ltb (length grid) 8) _ _ (Ranks P) (λ e. ranks_on P (value_of (range_of (length grid) (op_of sig (length vs)).arity) k at) _ (c.on_value sig grid vs refl (ltb-true (length grid) 8 e)) (λ u. tt)) (λ _. c.not_here))
  by_stand k (has_value sig grid vs) c =
      ranks_cond P (ltb (length vs) (length sig)) _ _ (ranks_cond P (is_mark Blank k) _ _ tt c.not_here) (ranks_cond P (is_mark LineEnd k) _ _ tt c.not_here)
  by_stand k (has_word sig grid) c = ranks_cond P (is_mark LineEnd k) _ _ tt c.not_here
  by_stand k (in_rule sig grid rules d s) c = ranks_rule k sig grid rules d s (c.on_side sig grid rules d s refl)

  -- a value, where the token is no number
  pub ranks_value : (k : Tok) (r : Option (ℕ × ℕ)) → ((s : List ℕ) → k ≡ a_number s → ⊥) → NotHere P k at → Ranks P (value_of r k at)
  ranks_value k None n h = ranks_cond P (is_mark Dash k) _ _ tt h
  ranks_value (a_name s) (Some r) n h = h
  ranks_value (a_number s) (Some r) n h = absurd (n s refl)
  ranks_value (an_instrument s) (Some r) n h = h
  ranks_value (a_variable x) (Some r) n h = h
  ranks_value (a_mark m) (Some r) n h = h
  ranks_value (a_stray b) (Some r) n h = h

-- a number, in a line of counts or of values, is at most out of range

module _ (n : ℕ) (two : 2 ≤ n) where
  pub ranks_counted : (o : Option ℕ) (sig : Sig) (f : ℕ) (at : At) → Ranks (λ i. i ≤ n) (counted o sig f at)
  ranks_counted None sig f at = two
  ranks_counted (Some i) sig f at = tt

  pub ranks_least : (least : ℕ) (o : Option ℕ) (at : At) → Ranks (λ i. i ≤ n) (from_least least o at)
  ranks_least least None at = two
  ranks_least least (Some i) at = ranks_cond (λ j. j ≤ n) (leb least i) _ _ tt two

  ranks_number : (r : Option (ℕ × ℕ)) (s : List ℕ) (at : At) → NotHere (λ i. i ≤ n) (a_number s) at → Ranks (λ i. i ≤ n) (value_of r (a_number s) at)
  ranks_number None s at h = h
  ranks_number (Some r) s at h = ranks_least r.0 (numbered r.1 s) at

-- a stray byte

no_number : (b : ℕ) (s : List ℕ) → a_stray b ≡ a_number s → ⊥
no_number b s e = cc

stray_side : (sig : Sig) (rules : ℕ) (d : Hand) (s : State) (at : At) (b : ℕ) → Ranks (λ n. n ≤ 1) (side_step limits sig rules d s at (a_stray b))
stray_side sig rules d (wants c) at b = omega arith
stray_side sig rules d (opens f a n c) at b = omega arith
stray_side sig rules d (has t m c) at b = omega arith

pub stray_rank : (s : Stand) (at : At) (b : ℕ) → Ranks (λ n. n ≤ 1) (sheet_step limits s at (a_stray b))
stray_rank s at b = by_stand (λ n. n ≤ 1) at (a_stray b) s (record {
  not_here = omega arith;
  on_name = λ sig e. omega arith;
  on_count = λ sig f e. omega arith;
  on_value = λ sig grid vs e l. ranks_value (λ n. n ≤ 1) at (a_stray b) _ (no_number b) (omega arith);
  on_side = λ sig grid rules d t e. stray_side sig (length rules) d t at b;
})

-- an ill number

module _ (s : List ℕ) (ill : plain s ≡ false) (at : At) where
  ill_number : (f : TextFault) → rank (Text (fault_of (a_number s) at f)) ≤ 2
  ill_number f = cond_both (plain s) f (BadNumber at) (λ x. rank (Text x) ≤ 2) (λ e. absurd (both_ways (plain s) ill e)) (λ _. omega arith)

  number_side : (sig : Sig) (rules : ℕ) (d : Hand) (t : State) → Ranks (λ n. n ≤ 2) (side_step limits sig rules d t at (a_number s))
  number_side sig rules d (wants c) = ill_number (Unexpected at)
  number_side sig rules d (opens f a n c) = ill_number (WrongArity a)
  number_side sig rules d (has t m c) = ill_number (Unexpected at)

  pub number_rank : (t : Stand) → Ranks (λ n. n ≤ 2) (sheet_step limits t at (a_number s))
  number_rank t = by_stand (λ n. n ≤ 2) at (a_number s) t (record {
    not_here = ill_number (Unexpected at);
    on_name = λ sig e. ill_number (Unexpected at);
    on_count = λ sig f e. ranks_counted 2 (omega arith) (numbered 3 s) sig f at;
    on_value = λ sig grid vs e l. ranks_number 2 (omega arith) _ s at (ill_number (Unexpected at));
    on_side = λ sig grid rules d u e. number_side sig (length rules) d u;
  })

-- an ill instrument

module _ (s : List ℕ) (ill : instrument_number s ≡ None) (at : At) where
  ill_instrument : (f : TextFault) → rank (Text (fault_of (an_instrument s) at f)) ≤ 2
  ill_instrument f = subst (λ o. rank (Text (unless_some o at f)) ≤ 2) (sym ill) (omega arith)

  instrument_side : (sig : Sig) (rules : ℕ) (d : Hand) (t : State) → Ranks (λ n. n ≤ 2) (side_step limits sig rules d t at (an_instrument s))
  instrument_side sig rules d (wants c) = subst (λ o. Ranks (λ n. n ≤ 2) (chain (in_text (with_number o at c)) (λ u. within_room limits rules c at (fronted d c at u)))) (sym ill) (omega arith)
  instrument_side sig rules d (opens f a n c) = ill_instrument (WrongArity a)
  instrument_side sig rules d (has t m c) = ill_instrument (Unexpected at)

  pub instrument_rank : (t : Stand) → Ranks (λ n. n ≤ 2) (sheet_step limits t at (an_instrument s))
  instrument_rank t = by_stand (λ n. n ≤ 2) at (an_instrument s) t (record {
    not_here = ill_instrument (Unexpected at);
    on_name = λ sig e. ill_instrument (Unexpected at);
    on_count = λ sig f e. ill_instrument (Unexpected at);
    on_value = λ sig grid vs e l. ranks_value (λ n. n ≤ 2) at (an_instrument s) _ (λ t e. cc) (ill_instrument (Unexpected at));
    on_side = λ sig grid rules d u e. instrument_side sig (length rules) d u;
  })

-- behind an operator that takes arguments, and behind a term

pub fault_rank : (n : ℕ) (k : Tok) (at : At) (f : TextFault) → 2 ≤ n → rank (Text f) ≤ n → rank (Text (fault_of k at f)) ≤ n
fault_rank n (a_name s) at f h l = l
fault_rank n (a_number s) at f h l = cond_both (plain s) f (BadNumber at) (λ x. rank (Text x) ≤ n) (λ _. l) (λ _. h)
fault_rank n (an_instrument s) at f h l = elim (instrument_number s) as (λ o. rank (Text (unless_some o at f)) ≤ n) [ None ↦ h | Some i ↦ l ]
fault_rank n (a_variable x) at f h l = l
fault_rank n (a_mark m) at f h l = l
fault_rank n (a_stray b) at f h l = omega arith

abbrev Low : ℕ → ℕ → Type 0
Low n i = i ≤ n

module _ (n : ℕ) (three : 3 ≤ n) where
  opens_mark_low : (m : Mark) (f : ℕ) (a : At) (i : ℕ) (c : Context) → Ranks (Low n) (in_text (on_opens_mark m f a i c))
  opens_mark_low Opening f a i c = tt
  opens_mark_low Closing f a i c = omega arith
  opens_mark_low Comma f a i c = omega arith
  opens_mark_low Equals f a i c = omega arith
  opens_mark_low Dash f a i c = omega arith
  opens_mark_low Blank f a i c = omega arith
  opens_mark_low LineEnd f a i c = omega arith

  pub opens_low : (k : Tok) (at : At) (f : ℕ) (a : At) (i : ℕ) (c : Context) → Ranks (Low n) (in_text (on_opens k at f a i c))
  opens_low (a_name s) at f a i c = omega arith
  opens_low (a_number s) at f a i c = fault_rank n (a_number s) at (WrongArity a) (omega arith) (omega arith)
  opens_low (an_instrument s) at f a i c = fault_rank n (an_instrument s) at (WrongArity a) (omega arith) (omega arith)
  opens_low (a_variable x) at f a i c = omega arith
  opens_low (a_mark m) at f a i c = opens_mark_low m f a i c
  opens_low (a_stray b) at f a i c = omega arith

module _ (n : ℕ) (four : 4 ≤ n) where
  has_mark_low : (m : Mark) (at : At) (t : Term) (b : Option At) (c : Context) → Ranks (Low n) (in_text (on_has_mark m at t b c))
  has_mark_low Opening at t None c = four
  has_mark_low Opening at t (Some a) c = omega arith
  has_mark_low Closing at t b top = four
  has_mark_low Closing at t b (within f a ts zero c) = tt
  has_mark_low Closing at t b (within f a ts (suc i) c) = omega arith
  has_mark_low Comma at t b top = four
  has_mark_low Comma at t b (within f a ts zero c) = omega arith
  has_mark_low Comma at t b (within f a ts (suc i) c) = tt
  has_mark_low Equals at t b c = four
  has_mark_low Dash at t b c = four
  has_mark_low Blank at t b c = four
  has_mark_low LineEnd at t b c = four

  pub has_low : (k : Tok) (at : At) (t : Term) (b : Option At) (c : Context) → Ranks (Low n) (in_text (on_has k at t b c))
  has_low (a_name s) at t b c = four
  has_low (a_number s) at t b c = fault_rank n (a_number s) at (Unexpected at) (omega arith) four
  has_low (an_instrument s) at t b c = fault_rank n (an_instrument s) at (Unexpected at) (omega arith) four
  has_low (a_variable x) at t b c = four
  has_low (a_mark m) at t b c = has_mark_low m at t b c
  has_low (a_stray j) at t b c = omega arith

  pub side_low : (sig : Sig) (rules : ℕ) (d : Hand) (s : State) (at : At) (k : Tok) → ((c : Context) → s ≡ wants c → Ranks (Low n) (side_step limits sig rules d (wants c) at k)) → Ranks (Low n) (side_step limits sig rules d s at k)
  side_low sig rules d (wants c) at k h = h c refl
  side_low sig rules d (opens f a i c) at k h = opens_low n (omega arith) k at f a i c
  side_low sig rules d (has t b c) at k h = has_low k at t b c

  -- no symbol

  dull_name : (k : Tok) (sig : Sig) (at : At) → symbol k ≡ 0 → Ranks (Low n) (wants_name 32 k sig at)
  dull_name (a_name s) sig at h = absurd (omega arith)
  dull_name (a_number s) sig at h = fault_rank n (a_number s) at (Unexpected at) (omega arith) four
  dull_name (an_instrument s) sig at h = absurd (omega arith)
  dull_name (a_variable x) sig at h = absurd (omega arith)
  dull_name (a_mark m) sig at h = four
  dull_name (a_stray b) sig at h = omega arith

  dull_count : (k : Tok) (sig : Sig) (f : ℕ) (at : At) → symbol k ≡ 0 → Ranks (Low n) (wants_count k sig f at)
  dull_count (a_name s) sig f at h = absurd (omega arith)
  dull_count (a_number s) sig f at h = ranks_counted n (omega arith) (numbered 3 s) sig f at
  dull_count (an_instrument s) sig f at h = absurd (omega arith)
  dull_count (a_variable x) sig f at h = absurd (omega arith)
  dull_count (a_mark m) sig f at h = four
  dull_count (a_stray b) sig f at h = omega arith

  dull_value : (k : Tok) (r : Option (ℕ × ℕ)) (at : At) → symbol k ≡ 0 → Ranks (Low n) (value_of r k at)
  dull_value (a_name s) r at h = absurd (omega arith)
  dull_value (a_number s) r at h = ranks_number n (omega arith) r s at (fault_rank n (a_number s) at (Unexpected at) (omega arith) four)
  dull_value (an_instrument s) r at h = absurd (omega arith)
  dull_value (a_variable x) r at h = absurd (omega arith)
  dull_value (a_mark m) r at h = ranks_value (Low n) at (a_mark m) r (λ s e. cc) four
  dull_value (a_stray b) r at h = ranks_value (Low n) at (a_stray b) r (no_number b) (omega arith)

  dull_wants : (sig : Sig) (rules : ℕ) (d : Hand) (c : Context) (at : At) (k : Tok) → symbol k ≡ 0 → Ranks (Low n) (side_step limits sig rules d (wants c) at k)
  dull_wants sig rules d c at (a_name s) h = absurd (omega arith)
  dull_wants sig rules d c at (a_number s) h = fault_rank n (a_number s) at (Unexpected at) (omega arith) four
  dull_wants sig rules d c at (an_instrument s) h = absurd (omega arith)
  dull_wants sig rules d c at (a_variable x) h = absurd (omega arith)
  dull_wants sig rules d c at (a_mark m) h = four
  dull_wants sig rules d c at (a_stray b) h = omega arith

  pub dull_rank : (k : Tok) (s : Stand) (at : At) → symbol k ≡ 0 → Ranks (Low n) (sheet_step limits s at k)
  dull_rank k s at h = by_stand (Low n) at k s (record {
    not_here = fault_rank n k at (Unexpected at) (omega arith) four;
    on_name = λ sig e. dull_name k sig at h;
    on_count = λ sig f e. dull_count k sig f at h;
    on_value = λ sig grid vs e l. dull_value k _ at h;
    on_side = λ sig grid rules d t e. side_low sig (length rules) d t at k (λ c q. dull_wants sig (length rules) d c at k h);
  })

  -- a symbol, where no name comes in the first line and no term begins

  bright_count : (k : Tok) (sig : Sig) (f : ℕ) (at : At) → symbol k ≡ 1 → NotHere (Low n) k at → Ranks (Low n) (wants_count k sig f at)
  bright_count (a_name s) sig f at o h = h
  bright_count (a_number s) sig f at o h = absurd (omega arith)
  bright_count (an_instrument s) sig f at o h = h
  bright_count (a_variable x) sig f at o h = h
  bright_count (a_mark m) sig f at o h = h
  bright_count (a_stray b) sig f at o h = h

  pub symbol_rank : (k : Tok) (s : Stand) (at : At) → symbol k ≡ 1 → ((sig : Sig) → s ≡ in_heading (sig, WantsName) → Ranks (Low n) (wants_name 32 k sig at))
      → ((sig : Sig) (grid : Grid) (rules : List Rule) (d : Hand) (c : Context) → s ≡ in_rule sig grid rules d (wants c) → Ranks (Low n) (side_step limits sig (length rules) d (wants c) at k)) → Ranks (Low n) (sheet_step limits s at k)
  symbol_rank k s at h name side =
      let here : NotHere (Low n) k at = fault_rank n k at (Unexpected at) (omega arith) four in
      by_stand (Low n) at k s (record {
        not_here = here;
        on_name = name;
        on_count = λ sig f e. bright_count k sig f at h here;
        on_value = λ sig grid vs e l. ranks_value (Low n) at k _ (λ t q. omega (arith, ap symbol q)) here;
        on_side = λ sig grid rules d t e. side_low sig (length rules) d t at k (λ c q. side sig grid rules d c (e ∙ ap (in_rule sig grid rules d) q));
      })

-- where a term may begin

module _ (P : ℕ → Type 0) (sig : Sig) (rules : ℕ) (d : Hand) (c : Context) (at : At) where
  ranks_room : {A : Type 0} (r : Result A SheetFault) → P 6 → Ranks P r → Ranks P (within_room limits rules c at r)
  ranks_room r p h = ranks_cond P (room limits rules c) _ _ h p

  pub term_name : (s : List ℕ) → P 5 → P 6 → Ranks P (side_step limits sig rules d (wants c) at (a_name s))
  term_name s p q = elim (found sig s) as (λ o. Ranks P (chain (in_text (with_name sig o at c)) (λ u. within_room limits rules c at (Ok u)))) [ None ↦ p | Some f ↦ ranks_room (Ok _) q tt ]

  ranks_fronted : (h : Hand) (k : Context) (u : State) → P 8 → Ranks P (fronted h k at u)
  ranks_fronted on_left top u p = p
  ranks_fronted on_left (within f a ts n k) u p = tt
  ranks_fronted (on_right l) k u p = tt

  number_term : (o : Option ℕ) → (o ≡ None → P 2) → P 6 → P 8 → Ranks P (chain (in_text (with_number o at c)) (λ u. within_room limits rules c at (fronted d c at u)))
  number_term None p q r = p refl
  number_term (Some n) p q r = ranks_room (fronted d c at (has (instrument n) None c)) q (ranks_fronted d c (has (instrument n) None c) r)

  pub term_number : (s : List ℕ) → (instrument_number s ≡ None → P 2) → P 6 → P 8 → Ranks P (side_step limits sig rules d (wants c) at (an_instrument s))
  term_number s = number_term (instrument_number s)

  ranks_variable : (h : Hand) (x : ℕ) → (h ≡ on_left → P 9) → ((l : Term) → h ≡ on_right l → P 10) → Ranks P (variable_on h x c at)
  ranks_variable on_left x p q = ranks_cond P (ltb 0 (occurrences_before x c)) _ _ (p refl) tt
  ranks_variable (on_right l) x p q = ranks_cond P (ltb 0 (occurrences x l)) _ _ tt (q l refl)

  pub term_variable : (x : ℕ) → P 6 → P 8 → (d ≡ on_left → P 9) → ((l : Term) → d ≡ on_right l → P 10) → Ranks P (side_step limits sig rules d (wants c) at (a_variable x))
  term_variable x p q r s = ranks_room (chain (fronted d c at (wants c)) (λ _. variable_on d x c at)) p (ranks_on P (fronted d c at (wants c)) _ (ranks_fronted d c (wants c) q) (λ u. ranks_variable d x r s))

-- a name

ranks_once : (P : ℕ → Type 0) (o : Option ℕ) (sig : Sig) (s : List ℕ) (at : At) → P 7 → Ranks P (named_once o sig s at)
ranks_once P None sig s at h = tt
ranks_once P (Some f) sig s at h = h

pub first_name : (P : ℕ → Type 0) (sig : Sig) (s : List ℕ) (at : At) → P 6 → P 7 → Ranks P (wants_name 32 (a_name s) sig at)
first_name P sig s at p q = ranks_cond P (leb 32 (length sig)) _ _ p (ranks_once P (found sig s) sig s at q)

pub name_rank : (s : List ℕ) (t : Stand) (at : At) → Ranks (λ n. n ≤ 7) (sheet_step limits t at (a_name s))
name_rank s t at = symbol_rank 7 (omega arith) (a_name s) t at refl (λ sig e. first_name (λ n. n ≤ 7) sig s at (omega arith) (omega arith)) (λ sig grid rules d c e. term_name (λ n. n ≤ 7) sig (length rules) d c at s (omega arith) (omega arith))

-- in front of a left side
front_side : (sig : Sig) (rules : ℕ) (at : At) (k : Tok) → Ranks (λ n. n ≤ 8) (side_step limits sig rules on_left (wants top) at k)
front_side sig rules at (a_name s) = term_name (λ n. n ≤ 8) sig rules on_left top at s (omega arith) (omega arith)
front_side sig rules at (a_number s) = dull_wants 8 (omega arith) sig rules on_left top at (a_number s) refl
front_side sig rules at (an_instrument s) = term_number (λ n. n ≤ 8) sig rules on_left top at s (λ _. omega arith) (omega arith) (omega arith)
front_side sig rules at (a_variable x) = ranks_room (λ n. n ≤ 8) sig rules on_left top at (chain (fronted on_left top at (wants top)) (λ _. variable_on on_left x top at)) (omega arith) (omega arith)
front_side sig rules at (a_mark m) = omega arith
front_side sig rules at (a_stray b) = omega arith

pub front_rank : (sig : Sig) (grid : Grid) (rules : List Rule) (at : At) (k : Tok) → Ranks (λ n. n ≤ 8) (sheet_step limits (in_rule sig grid rules on_left (wants top)) at k)
front_rank sig grid rules at k = ranks_rule (λ n. n ≤ 8) at k sig grid rules on_left (wants top) (front_side sig (length rules) at k)

-- on the left
pub left_rank : (sig : Sig) (grid : Grid) (rules : List Rule) (s : State) (at : At) (x : ℕ) → Ranks (λ n. n ≤ 9) (sheet_step limits (in_rule sig grid rules on_left s) at (a_variable x))
left_rank sig grid rules s at x = ranks_rule (λ n. n ≤ 9) at (a_variable x) sig grid rules on_left s
    (side_low 9 (omega arith) sig (length rules) on_left s at (a_variable x) (λ c e. term_variable (λ n. n ≤ 9) sig (length rules) on_left c at x (omega arith) (omega arith) (λ _. omega arith) (λ l q. never_right q)))
