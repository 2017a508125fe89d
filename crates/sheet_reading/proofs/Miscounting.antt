-- When a token of a side shows a wrong count of arguments: the side is read without its limits, and with variables anywhere.
use Rattle.std.proofs.Common.{◌≡◌, ℕ, zero, suc, ◌+◌, ◌-◌, ◌<◌, ltb, List, ◌∷◌, length, Some, None, Ok, Err, Result, sym, refl, ap, ◌∙◌, subst, arith}
use Rattle.std.proofs.lemmas.Bool.{cond_both}
use Rattle.terms.specs.Term.{Term, variable, apply, Terms, nil, cons, how_many}
use Rattle.terms.specs.Signature.{Sig, op_of, Declared}
use Rattle.terms.specs.Ticket.{TermsOf}
use Rattle.terms.specs.Substitution.{occurrences}
use Rattle.reading.specs.declared.token.At.{At}
use Rattle.reading.specs.declared.token.Mark.TheVariants.{Opening, Closing, Comma}
use Rattle.reading.specs.declared.fault.TextFault.{TextFault}
use Rattle.reading.specs.Tokens.{Tok, a_name, a_number, an_instrument, a_variable, a_mark, a_stray, past}
use Rattle.reading.specs.Reading.{Context, top, within, State, wants, opens, has, named, with_number, on_wants, on_opens, on_has, chain}
use Rattle.reading.specs.Laws.{Wrong, ShowsCount, needless_opening, missing_opening, comma_for_closing, closing_for_comma, arguments_so_far}
use Rattle.reading.proofs.Digits.{numbered_decimal}
use Rattle.reading.proofs.Equal.{not_both, same_ok}
use Rattle.reading.proofs.Running.{passed, reach_with, reach_split, reach_first}
use Rattle.reading.proofs.Back.{ComesTo, Readable, reads_first, name_step}
use Rattle.reading.proofs.Miscounting.{Counted, no_terms, counted_there, counted_behind}
use Rattle.reading.proofs.States.{name_of}
use Rattle.reading.specs.declared.fault.SheetFault.{SheetFault}
use Rattle.sheet_reading.specs.Sheet.{Limits}
use Rattle.sheet_reading.specs.Sides.{Hand, on_left, on_right, occurrences_before, room, within_room, in_text, fronted, variable_on, side_step}
use Rattle.sheet_reading.specs.Laws.{Miscounted}

-- a step of a side without its limits, and with variables anywhere

abbrev free_wants : Sig → Tok → At → Context → Result State TextFault
free_wants sig (a_name s) at k = on_wants sig (a_name s) at k
free_wants sig (a_number s) at k = on_wants sig (a_number s) at k
free_wants sig (an_instrument s) at k = on_wants sig (an_instrument s) at k
free_wants sig (a_variable x) at k = Ok (has (variable x) None k)
free_wants sig (a_mark m) at k = on_wants sig (a_mark m) at k
free_wants sig (a_stray b) at k = on_wants sig (a_stray b) at k

abbrev pub free : Sig → State → At → Tok → Result State TextFault
free sig (wants k) at tok = free_wants sig tok at k
free sig (opens f a n k) at tok = on_opens tok at f a n k
free sig (has t m k) at tok = on_has tok at t m k

text_ok : (r : Result State TextFault) (u : State) → in_text r ≡ Ok u → r ≡ Ok u
text_ok (Ok v) u e = ap Ok (same_ok e)
text_ok (Err f) u e = not_both (sym e)

fronted_ok : (d : Hand) (k : Context) (at : At) (v u : State) → fronted d k at v ≡ Ok u → v ≡ u
fronted_ok on_left top at v u e = not_both (sym e)
fronted_ok on_left (within f a ts n k) at v u e = same_ok e
fronted_ok (on_right l) k at v u e = same_ok e

module _ (m : Limits) (sig : Sig) (rules : ℕ) (d : Hand) (c : Context) (at : At) (u : State) where
  roomy : (r : Result State SheetFault) → within_room m rules c at r ≡ Ok u → r ≡ Ok u
  roomy r = cond_both (room m rules c) r _ (λ q. q ≡ Ok u → r ≡ Ok u) (λ _ e. e) (λ _ e. not_both (sym e))

  freed_name : (r : Result State TextFault) → chain (in_text r) (λ v. within_room m rules c at (Ok v)) ≡ Ok u → r ≡ Ok u
  freed_name (Ok v) e = ap Ok (same_ok (roomy (Ok v) e))
  freed_name (Err f) e = not_both (sym e)

  freed_number : (r : Result State TextFault) → chain (in_text r) (λ v. within_room m rules c at (fronted d c at v)) ≡ Ok u → r ≡ Ok u
  freed_number (Ok v) e = ap Ok (fronted_ok d c at v u (roomy (fronted d c at v) e))
  freed_number (Err f) e = not_both (sym e)

  stands_ok : (h : Hand) (x : ℕ) → variable_on h x c at ≡ Ok u → has (variable x) None c ≡ u
  stands_ok on_left x = cond_both (ltb 0 (occurrences_before x c)) _ _ (λ q. q ≡ Ok u → has (variable x) None c ≡ u) (λ _ e. not_both (sym e)) (λ _ e. same_ok e)
  stands_ok (on_right l) x = cond_both (ltb 0 (occurrences x l)) _ _ (λ q. q ≡ Ok u → has (variable x) None c ≡ u) (λ _ e. same_ok e) (λ _ e. not_both (sym e))

  after_front : (r : Result State SheetFault) (x : ℕ) → chain r (λ _. variable_on d x c at) ≡ Ok u → has (variable x) None c ≡ u
  after_front (Ok v) x e = stands_ok d x e
  after_front (Err f) x e = not_both (sym e)

  freed_wants : (k : Tok) → side_step m sig rules d (wants c) at k ≡ Ok u → free sig (wants c) at k ≡ Ok u
  freed_wants (a_name s) e = freed_name (on_wants sig (a_name s) at c) e
  freed_wants (a_number s) e = not_both (sym e)
  freed_wants (an_instrument s) e = freed_number (on_wants sig (an_instrument s) at c) e
  freed_wants (a_variable x) e = ap Ok (after_front (fronted d c at (wants c)) x (roomy (chain (fronted d c at (wants c)) (λ _. variable_on d x c at)) e))
  freed_wants (a_mark j) e = not_both (sym e)
  freed_wants (a_stray b) e = not_both (sym e)

pub freed : (m : Limits) (sig : Sig) (rules : ℕ) (d : Hand) (s : State) (at : At) (k : Tok) (u : State) → side_step m sig rules d s at k ≡ Ok u → free sig s at k ≡ Ok u
freed m sig rules d (wants c) at k u e = freed_wants m sig rules d c at u k e
freed m sig rules d (opens f a n c) at k u e = text_ok (on_opens k at f a n c) u e
freed m sig rules d (has t b c) at k u e = text_ok (on_has k at t b c) u e

-- wrong counts

module _ {sig : Sig} (good : Declared sig) where
  abbrev reach : State → At → List Tok → Result State TextFault
  reach = reach_with (free sig)

  free_readable : Readable sig (free sig) (λ t k. Unit {0}) (λ ts us k. Unit {0})
  free_readable = record {
    arguments = λ f ts k h. tt;
    first = λ t ts us f a n k h. tt;
    others = λ t ts us k h. tt;
    on_variable = λ x k at h. refl;
    on_instrument = λ n k at l h. ap (λ o. with_number o at k) (numbered_decimal 999999 n (omega arith) l);
    on_name = λ f ts k at l h. name_step good f l k at;
    on_opening = λ f a n k at. refl;
    on_comma = λ t m f a us n k at. refl;
    on_closing = λ t m f a us k at. refl;
  }

  leads_arguments : (t : Term) (ts : Terms) → TermsOf sig (cons t ts) → (f : ℕ) (a : At) (n j : ℕ) (k : Context) (at : At) → n ≡ how_many ts + j → ComesTo (reach (opens f a n k) at (arguments_so_far sig (cons t ts))) f a j k (cons t ts)
  leads_arguments t ts h f a n j k at e = reads_first good (free sig) (λ t k. Unit {0}) (λ ts us k. Unit {0}) free_readable t ts h f a n j k at e tt

  -- behind an operator of n arguments and some of them
  shown_count : (f n : ℕ) (ts : Terms) (w : Wrong) (a : At) (k : Context) (at : At) (s : State) → TermsOf sig ts → ShowsCount n ts w → reach (named f n a k) at (arguments_so_far sig ts) ≡ Ok s → Counted s w
  shown_count f zero nil w a k at s h (needless_opening e z q) r = counted_there (has (apply f nil) (Some a) k) s w (Some (a_mark Opening)) _ (a, refl) refl r q
  shown_count f (suc n) nil w a k at s h (needless_opening e z q) r = absurd (omega arith)
  shown_count f zero nil w a k at s h (missing_opening e z q) r = absurd (omega arith)
  shown_count f (suc n) nil w a k at s h (missing_opening e z q) r = counted_there (opens f a n k) s w w _ (a, refl) refl r refl
  shown_count f n nil w a k at s h (comma_for_closing l z q) r = absurd (omega arith)
  shown_count f n nil w a k at s h (closing_for_comma l z q) r = absurd (omega arith)
  shown_count f n (cons t ts) w a k at s h (needless_opening e z q) r = absurd (no_terms t ts e)
  shown_count f n (cons t ts) w a k at s h (missing_opening e z q) r = absurd (no_terms t ts e)
  shown_count f zero (cons t ts) w a k at s h (comma_for_closing l z q) r = absurd (omega arith)
  shown_count f (suc n) (cons t ts) w a k at s h (comma_for_closing l z q) r =
      counted_behind f a 0 k (cons t ts) s w (Some (a_mark Comma)) _ (λ us u m. (a, refl)) (leads_arguments t ts h f a n 0 k at (omega arith)) r q
  shown_count f zero (cons t ts) w a k at s h (closing_for_comma l z q) r = absurd (omega arith)
  shown_count f (suc n) (cons t ts) w a k at s h (closing_for_comma l z q) r =
      counted_behind f a (suc (n - how_many ts - 1)) k (cons t ts) s w (Some (a_mark Closing)) _ (λ us u m. (a, refl)) (leads_arguments t ts h f a n (suc (n - how_many ts - 1)) k at (omega arith)) r q

  -- only where a term may begin is a name accepted
  named_there : (f : ℕ) → f < length sig → (s u : State) (at : At) → free sig s at (name_of sig f) ≡ Ok u → (k : Context) × (u ≡ named f (op_of sig f).arity at k)
  named_there f h (wants k) u at e = (k, same_ok (sym e ∙ name_step good f h k at))
  named_there f h (opens g a n k) u at e = not_both (sym e)
  named_there f h (has t m k) u at e = not_both (sym e)

  -- a wrong count shows in the state
  pub miscounted_shows : (front side : List Tok) (w : Wrong) (a : At) (s : State) (at : At) → Miscounted sig front side w a → reach (wants top) at side ≡ Ok s → Counted s w
  miscounted_shows front side w a s at c e =
      let f : ℕ = c.operator in
      let ls : List Tok = arguments_so_far sig c.so_far in
      let (v, p, q) = reach_split (free sig) (wants top) at c.earlier (name_of sig f ∷ ls) s (ap (reach (wants top) at) (sym c.stands) ∙ e) in
      let (u, r, z) = reach_first (free sig) v (passed at c.earlier) (name_of sig f) ls s q in
      let (k, n) = named_there f c.declared v u (passed at c.earlier) r in
      shown_count f (op_of sig f).arity c.so_far w (passed at c.earlier) k (past (passed at c.earlier) (name_of sig f)) s c.terms c.shows
      (subst (λ x. reach x (past (passed at c.earlier) (name_of sig f)) ls ≡ Ok s) n z)
