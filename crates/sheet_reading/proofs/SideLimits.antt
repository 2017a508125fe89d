-- Larger limits change no answer but a refusal for a limit.
use Rattle.std.proofs.Common.{◌≡◌, ℕ, true, ltb, Ok, Err, Result, sym, refl, ap, subst, arith}
use Rattle.std.proofs.lemmas.Bool.{cond_both, cond-true, and_parts, and_from, ltb-true, lt-ltb}
use Rattle.terms.specs.Signature.{Sig}
use Rattle.reading.specs.declared.token.At.{At}
use Rattle.reading.specs.Tokens.{Tok, a_name, a_number, an_instrument, a_variable, a_mark, a_stray}
use Rattle.reading.specs.Reading.{Context, State, wants, opens, has, on_wants, chain}
use Rattle.reading.specs.declared.fault.SheetFault.{SheetFault}
use Rattle.sheet_reading.specs.Sheet.{Limits}
use Rattle.sheet_reading.specs.Sides.{Hand, symbols_before, depth, room, within_room, in_text, fronted, side_step}
use Rattle.sheet_reading.proofs.SideFacts.{More, OfLimit}

-- the second answer is the first, unless that is a refusal for a limit
abbrev pub Stays : {A : Type 0} → Result A SheetFault → Result A SheetFault → Type 0
Stays (Ok u) r = r ≡ Ok u
Stays (Err f) r = (OfLimit f → ⊥) → r ≡ Err f

pub same : {A : Type 0} (r : Result A SheetFault) → Stays r r
same (Ok u) = refl
same (Err f) = λ _. refl

pub stays_on : {A B : Type 0} (r q : Result A SheetFault) (f g : A → Result B SheetFault) → Stays r q → ((u : A) → Stays (f u) (g u)) → Stays (chain r f) (chain q g)
stays_on (Ok u) q f g h j = subst (λ x. Stays (f u) (chain x g)) (sym h) (j u)
stays_on (Err e) q f g h j = λ free. ap (λ x. chain x g) (h free)

module _ (m n : Limits) (more : More m n) (rules : ℕ) where
  more_room : (k : Context) → room m rules k ≡ true → room n rules k ≡ true
  more_room k e =
      let (p, q) = and_parts (ltb rules m.rules) _ e in
      let (i, j) = and_parts (ltb (symbols_before k) m.symbols) _ q in
      and_from _ _ (lt-ltb rules n.rules (omega (arith, ltb-true rules m.rules p)))
      (and_from _ _ (lt-ltb (symbols_before k) n.symbols (omega (arith, ltb-true (symbols_before k) m.symbols i))) (lt-ltb (depth k) n.levels (omega (arith, ltb-true (depth k) m.levels j))))

  stays_room : (k : Context) (at : At) (r : Result State SheetFault) → Stays (within_room m rules k at r) (within_room n rules k at r)
  stays_room k at r = cond_both (room m rules k) r _ (λ q. Stays q (within_room n rules k at r)) (λ e. subst (Stays r) (sym (cond-true _ _ _ (more_room k e))) (same r)) (λ _ h. absurd (h tt))

  pub stays : (sig : Sig) (d : Hand) (s : State) (at : At) (k : Tok) → Stays (side_step m sig rules d s at k) (side_step n sig rules d s at k)
  stays sig d (wants k) at (a_name s) = stays_on (in_text (on_wants sig (a_name s) at k)) _ _ _ (same (in_text (on_wants sig (a_name s) at k))) (λ u. stays_room k at (Ok u))
  stays sig d (wants k) at (a_number s) = λ _. refl
  stays sig d (wants k) at (an_instrument s) = stays_on (in_text (on_wants sig (an_instrument s) at k)) _ _ _ (same (in_text (on_wants sig (an_instrument s) at k))) (λ u. stays_room k at (fronted d k at u))
  stays sig d (wants k) at (a_variable x) = stays_room k at _
  stays sig d (wants k) at (a_mark j) = λ _. refl
  stays sig d (wants k) at (a_stray b) = λ _. refl
  stays sig d (opens f a i k) at tok = same _
  stays sig d (has t b k) at tok = same _
