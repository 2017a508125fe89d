-- A symbol where a term may begin.
use Rattle.std.proofs.Common.{◌≡◌, ℕ, ◌+◌, ◌<◌, ◌≤◌, true, false, Bool, cond, ◌&&◌, ◌≢◌, List, length, get_or, set, Some, None, Ok, Err, Option, Result, nat_lt, sym, refl, ap, ◌∙◌, ⊎_elim, arith}
use Rattle.std.proofs.lemmas.Bool.{cases_lt, cases_eq, lt-ltb, eq-eqb, ne_eqb}
use Rattle.std.proofs.lemmas.List.{get_or-set_same, get_or-set_other}
use Rattle.terms.specs.Term.{variable, instrument}
use Rattle.terms.specs.Substitution.{occurrences}
use Rattle.reading.specs.declared.token.At.{At}
use Rattle.reading.specs.declared.fault.TextFault.TheVariants.{PastLimit}
use Rattle.reading.specs.declared.fault.SheetFault.{SheetFault}
use Rattle.reading.specs.declared.fault.SheetFault.TheVariants.{Text, Unbound}
use Rattle.reading.specs.Tokens.{an_instrument, a_variable}
use Rattle.reading.specs.Numbers.{instrument_number}
use Rattle.reading.specs.Reading.{Context, State, wants, has, chain, with_number}
use Rattle.sheet_reading.specs.Sheet.{limits}
use Rattle.sheet_reading.specs.Sides.{Hand as Side, on_left, on_right, room as is_room, within_room, in_text, fronted, variable_on, symbols_before, depth, occurrences_before}
use Rattle.sheet_reader.specs.declared.side.Room.{Room}
use Rattle.sheet_reader.specs.declared.side.SideReader.{SideReader}
use Rattle.sheet_reader.specs.Sides.{Around, Fits, Falls, Keeps, Marked, begun_with}

-- a symbol more is within the limits
pub room_left : (r : SideReader) (room below : Room) (i : Around) → Fits r room i → Falls room below → is_room limits (length i.rules) i.context ≡ true
room_left r room below i h f =
    let few : length i.rules < 32 = ⊎_elim (λ (p : length i.rules < 32). p) (λ (p : 32 ≤ length i.rules). absurd (omega (arith, h.roomy.past_rules p, f.0))) (cases_lt (length i.rules) 32) in
    let symbols : symbols_before i.context < 32 = omega (arith, h.roomy.symbols_left few, f.0) in
    let levels : depth i.context < 16 = omega (arith, h.roomy.levels_left, f.1) in
    ap (λ b. b && (nat_lt (symbols_before i.context) 32 && nat_lt (depth i.context) 16)) (lt-ltb (length i.rules) 32 few)
    ∙ ap (λ b. b && nat_lt (depth i.context) 16) (lt-ltb (symbols_before i.context) 32 symbols)
    ∙ lt-ltb (depth i.context) 16 levels

-- so that what comes next counts
within_left : {A : Type 0} (r : SideReader) (room below : Room) (i : Around) (at : At) (o : Result A SheetFault) → Fits r room i → Falls room below → within_room limits (length i.rules) i.context at o ≡ o
within_left r room below i at o h f = ap (λ b. cond b o (Err (Text (PastLimit at)))) (room_left r room below i h f)

-- an instrument, behind the front
pub instrument_begun : (r : SideReader) (room below : Room) (i : Around) (at : At) (s : List ℕ) (n : ℕ) (front : Result (Unit {0}) SheetFault) → Fits r room i → Falls room below → instrument_number s ≡ Some n
    → fronted i.hand i.context at (has (instrument n) None i.context) ≡ chain front (λ _. Ok (has (instrument n) None i.context)) → begun_with i (an_instrument s) at ≡ chain front (λ _. Ok (has (instrument n) None i.context))
instrument_begun r room below i at s n front h f e q =
    ap (λ (o : Option ℕ). chain (in_text (with_number o at i.context)) (λ u. within_room limits (length i.rules) i.context at (fronted i.hand i.context at u))) e
    ∙ within_left r room below i at _ h f
    ∙ q

-- a variable, behind the front
pub variable_begun : (r : SideReader) (room below : Room) (i : Around) (at : At) (x : ℕ) (front : Result (Unit {0}) SheetFault) → Fits r room i → Falls room below
    → fronted i.hand i.context at (wants i.context) ≡ chain front (λ _. Ok (wants i.context)) → begun_with i (a_variable x) at ≡ chain front (λ _. variable_on i.hand x i.context at)
variable_begun r room below i at x front h f q =
    within_left r room below i at _ h f
    ∙ ap (λ (o : Result State SheetFault). chain o (λ _. variable_on i.hand x i.context at)) q
    ∙ elim front as (λ w. chain (chain w (λ _. Ok (wants i.context))) (λ _. variable_on i.hand x i.context at) ≡ chain w (λ _. variable_on i.hand x i.context at)) [ Ok u ↦ refl | Err g ↦ refl ]

-- a mark more
marked_more : (marks : List Bool) (before after : ℕ → ℕ) (x : ℕ) → x < length marks → ((y : ℕ) → y < 8 → get_or marks y false ≡ nat_lt 0 (before y)) → nat_lt 0 (after x) ≡ true → ((y : ℕ) → y ≢ x → after y ≡ before y)
    → (y : ℕ) → y < 8 → get_or (set marks x true) y false ≡ nat_lt 0 (after y)
marked_more marks before after x l m h o y p =
    ⊎_elim
    (λ (e : y ≡ x). ap (λ z. get_or (set marks x true) z false) e ∙ get_or-set_same marks x true false l ∙ sym h ∙ ap (λ z. nat_lt 0 (after z)) (sym e))
    (λ (n : y ≢ x). get_or-set_other marks x y true false n ∙ m y p ∙ ap (λ z. nat_lt 0 z) (sym (o y n)))
    (cases_eq y x)

tested : {A : Type 0} (b : Bool) (x a : A) (f : SheetFault) → cond b (Ok x) (Err f) ≡ Ok a → b ≡ true
tested true x a f e = refl
tested false x a f e = cc

-- a variable that may stand
pub variable_marked : (d : Side) (marks : List Bool) (k : Context) (x : ℕ) (at : At) (s : State) → x < 8 → length marks ≡ 8 → Marked marks d (λ y. occurrences_before y k) → variable_on d x k at ≡ Ok s
    → Marked (set marks x true) d (λ y. occurrences y (variable x) + occurrences_before y k)
variable_marked on_left marks k x at s l e m a =
    let one : occurrences x (variable x) ≡ 1 = ap (λ b. cond b 1 0) (eq-eqb x x refl) in
    marked_more marks (λ y. occurrences_before y k) (λ y. occurrences y (variable x) + occurrences_before y k) x (omega (arith, e)) m
    (lt-ltb 0 (occurrences x (variable x) + occurrences_before x k) (omega (arith, one)))
    (λ y n. let none : occurrences y (variable x) ≡ 0 = ap (λ b. cond b 1 0) (ne_eqb y x n) in omega (arith, none))
variable_marked (on_right t) marks k x at s l e m a = marked_more marks (λ y. occurrences y t) (λ y. occurrences y t) x (omega (arith, e)) m (tested (nat_lt 0 (occurrences x t)) (has (variable x) None k) s (Unbound at) a) (λ y n. refl)

-- the reader behind it
pub variable_keeps : (before r : SideReader) (room below : Room) (i : Around) (x p : ℕ) (at : At) (s : State) → x < 8 → p ≡ x → length before.variables ≡ 8 → Fits before room i → Falls room below → variable_on i.hand x i.context at ≡ Ok s
    → r ≡ record { signature = before.signature; hand = before.hand; variables = before.variables; nodes = r.nodes }
    → Keeps before (record { signature = r.signature; hand = r.hand; variables = set r.variables p true; nodes = r.nodes }) room below.symbols i 1 (λ y. occurrences y (variable x))
variable_keeps before r room below i x p at s l z e h f a q = record {
  signature = ap (λ (y : SideReader). y.signature) q;
  hand = ap (λ (y : SideReader). y.hand) q;
  marked = rw z (rw (ap (λ (y : SideReader). y.variables) q) (variable_marked i.hand before.variables i.context x at s l e h.marked a));
  spare_left = omega (arith, f.0);
}
