-- Reading the lines of values.
use Rattle.std.proofs.Common.{◌≡◌, ℕ, zero, suc, ◌+◌, ◌%◌, ◌<◌, ◌≤◌, Bool, true, false, cond, ◌&&◌, ◌||◌, eqb, ltb, List, [], ◌∷◌, ◌++◌, length, Some, None, Ok, Err, codes, Option, Result, sym, refl, ap, ◌∙◌, subst, append_assoc, append-nil, arith, length-append}
use Rattle.std.proofs.lemmas.Bool.{false≢true, lt-ltb, le-ltb}
use Rattle.std.proofs.lemmas.Bool.Decides.{nat_tests}
use Rattle.std.proofs.lemmas.List.{length_push}
use Rattle.terms.specs.Signature.{Sig, op_of}
use Rattle.lexer.specs.declared.token.Lexeme.{Lexeme}
use Rattle.lexer.specs.declared.token.Lexer.{Lexer}
use Rattle.lexer.specs.Lexing.{meaning, what_is_left, ReadToken}
use Rattle.reading.specs.declared.token.At.{At}
use Rattle.reading.specs.declared.token.Mark.{Mark}
use Rattle.reading.specs.declared.token.Mark.TheVariants.{Dash, Blank, LineEnd}
use Rattle.reading.specs.declared.fault.TextFault.TheVariants.{Unexpected}
use Rattle.reading.specs.declared.fault.SheetFault.{SheetFault}
use Rattle.reading.specs.declared.fault.SheetFault.TheVariants.{Text}
use Rattle.reading.specs.Tokens.{Tok, tokens}
use Rattle.reading.specs.Reading.{chain, fault_of, top, wants}
use Rattle.reading.specs.Heading.{not_here}
use Rattle.sheet_reading.specs.Values.{Value, Grid, range_in, range_of}
use Rattle.sheet_reading.specs.Sheet.{limits}
use Rattle.sheet_reading.specs.Sides.{on_left}
use Rattle.sheet_reading.specs.Reading.{Stand, wants_value, has_value, has_word, in_rule, is_mark, is_word, rules_may_come, value_of, on_value, on_line, sheet_step}
use Rattle.weighing.specs.declared.Weighing.{Weighing}
use Rattle.weighing.specs.Weighing.{Missing, Puts}
use Rattle.sheet_reader.specs.Progress.{Reached, Meets, Goes, Wants, misplaced, outcome}
use Rattle.sheet_reader.specs.Weighings.{NoWord, ValueComes, in_line}
use Rattle.sheet_reader.specs.Values.{Awaits, InWeighing}
use Rattle.sheet_reader.proofs.Progress.{each_token, met, taken, refused, good, goes_map}
use Rattle.sheet_reader.proofs.Cells.{weighs_put, weighs_opened, weighs_missing}

-- a test is false where its second part is false behind the first
both_not : (p q : Bool) → (p ≡ true → q ≡ false) → p && q ≡ false
both_not true q h = h refl
both_not false q h = refl

-- what may not come where nothing but marks may, not even a needless parenthesis
misplaced_here : (tok : Tok) (at : At) → fault_of tok at (Unexpected at) ≡ misplaced None tok at
misplaced_here tok at =
    each_token (λ k. fault_of k at (Unexpected at) ≡ misplaced None k at) (λ s. refl) (λ s. refl) (λ s. refl) (λ x. refl) (λ b. refl) refl refl refl refl refl refl refl tok

-- one mark may come, and else nothing
wants_mark : (s u : Stand) (m : Mark) → ((at : At) (tok : Tok) → sheet_step limits s at tok ≡ cond (is_mark m tok) (Ok u) (not_here tok at)) → Wants s None m u
wants_mark s u m h at tok = h at tok ∙ ap (λ f. cond (is_mark m tok) (Ok u) (Err (Text f))) (misplaced_here tok at)

-- one value

-- a token is met where a value must stand, and where it is not the word 'rules'
pub record MeetsValue (b : List ℕ) (sig : Sig) (grid : Grid) (vs : List Value) (x : Lexeme) (l : Lexer) : Type 0 where
  pub meets : Meets b (wants_value sig grid vs) x l
  pub no_word : on_line sig grid vs (meaning x.token) x.at ≡ on_value sig grid vs (meaning x.token) x.at

module _ (sig : Sig) (grid : Grid) (vs : List Value) where
  -- the line has the value
  abbrev has : Value → Result Stand SheetFault
  has v = Ok (has_value sig grid (vs ++ (v ∷ [])))

  -- the values in a range, or '-'
  abbrev on_range : Option (ℕ × ℕ) → Tok → At → Result Stand SheetFault
  on_range range tok at = chain (value_of range tok at) has

  abbrev its_range : Option (ℕ × ℕ)
  its_range = range_of (length grid) (op_of sig (length vs)).arity

  by_range : (range : Option (ℕ × ℕ)) (tok : Tok) (at : At) → length grid < 8 → its_range ≡ range → on_value sig grid vs tok at ≡ on_range range tok at
  by_range range tok at few is = ap (λ c. cond c (on_range its_range tok at) (not_here tok at)) (lt-ltb (length grid) 8 few) ∙ ap (λ r. on_range r tok at) is

  past_eight : (tok : Tok) (at : At) → length grid ≡ 8 → on_value sig grid vs tok at ≡ not_here tok at
  past_eight tok at n = ap (λ k. cond (ltb k 8) (on_range its_range tok at) (not_here tok at)) n

  -- where '-' must come the word 'rules' does not
  no_rules : its_range ≡ None → rules_may_come grid vs ≡ false
  no_rules e = no_rules_at (length grid % 4) vs refl e where
    no_rules_at : (k : ℕ) (ws : List Value) → length grid % 4 ≡ k → range_in k (op_of sig (length vs)).arity ≡ None → rules_may_come grid ws ≡ false
    no_rules_at zero ws p q = cc
    no_rules_at (suc k) [] p q = grind (arith, nat_tests)
    no_rules_at (suc k) (w ∷ ws) p q = refl

  dash_steps : length grid < 8 → its_range ≡ None → (at : At) (tok : Tok) → on_line sig grid vs tok at ≡ cond (is_mark Dash tok) (has None) (not_here tok at)
  dash_steps few is at tok =
      ap (λ c. cond (c && is_word (codes "rules") tok) (Ok (has_word sig grid)) (on_value sig grid vs tok at)) (no_rules is) ∙ by_range None tok at few is ∙ by_test (is_mark Dash tok)
    where
      by_test : (c : Bool) → chain (cond c (Ok None) (not_here tok at)) has ≡ cond c (has None) (not_here tok at)
      by_test true = refl
      by_test false = refl

module _ {b : List ℕ} {sig : Sig} {grid : Grid} {vs : List Value} where
  -- a token was read where a value must come
  pub met_value : {l : Lexer} {x : Lexeme} {m : Lexer} → Reached b (wants_value sig grid vs) l → ValueComes grid vs l → ReadToken l x m → MeetsValue b sig grid vs x m
  met_value {l = l} {x = x} {m = m} r h t = record {
    meets = met b (wants_value sig grid vs) l x m r t;
    no_word = ap (λ c. cond c (Ok (has_word sig grid)) (on_value sig grid vs (meaning x.token) x.at)) (both_not (rules_may_come grid vs) _ (λ e. h e (meaning x.token) (tokens (what_is_left m)) t.first));
  }

  module _ {range : Option (ℕ × ℕ)} {l m : Lexer} {x : Lexeme} (a : Awaits b sig grid vs range l) (h : MeetsValue b sig grid vs x m) where
    -- what is said of the token leads on or not
    judged : (r : Result Value SheetFault) → r ≡ value_of range (meaning x.token) x.at → Goes b r (λ v. Reached b (has_value sig grid (vs ++ (v ∷ []))) m)
    judged (Ok v) e =
        taken b (wants_value sig grid vs) (has_value sig grid (vs ++ (v ∷ []))) x m h.meets
        (h.no_word ∙ by_range sig grid vs range (meaning x.token) x.at a.few_lines a.its_range ∙ ap (λ r. chain r (has sig grid vs)) (sym e))
    judged (Err f) e =
        refused b (wants_value sig grid vs) x m f h.meets (h.no_word ∙ by_range sig grid vs range (meaning x.token) x.at a.few_lines a.its_range ∙ ap (λ r. chain r (has sig grid vs)) (sym e))

    pub number_judged : (r : Result ℕ SheetFault) → chain r (λ n. Ok (Some n)) ≡ value_of range (meaning x.token) x.at → Goes b r (λ n. Reached b (has_value sig grid (vs ++ (Some n ∷ []))) m)
    number_judged (Ok n) e = judged (Ok (Some n)) e
    number_judged (Err f) e = judged (Err f) e

  -- '-' where it must come
  pub wants_dash : {l : Lexer} → Awaits b sig grid vs None l → Wants (wants_value sig grid vs) None Dash (has_value sig grid (vs ++ (None ∷ [])))
  wants_dash a = wants_mark (wants_value sig grid vs) (has_value sig grid (vs ++ (None ∷ []))) Dash (dash_steps sig grid vs a.few_lines a.its_range)

  -- behind eight lines nothing more comes
  pub past_last : {x : Lexeme} {m : Lexer} → MeetsValue b sig grid vs x m → length grid ≡ 8 → outcome b ≡ Err (Text (fault_of (meaning x.token) x.at (Unexpected x.at)))
  past_last {x = x} {m = m} h n =
      refused b (wants_value sig grid vs) x m (Text (fault_of (meaning x.token) x.at (Unexpected x.at))) h.meets (h.no_word ∙ past_eight sig grid vs (meaning x.token) x.at n)

-- before a value: the first of its line, or not

pub first_comes : {b : List ℕ} {sig : Sig} {grid : Grid} (vs : List Value) {l : Lexer} → length vs ≤ 0 → ValueComes grid vs l → Reached b (in_line sig grid vs) l → Reached b (wants_value sig grid vs) l × ValueComes grid vs l
first_comes [] n h r = (r, h)
first_comes (v ∷ vs) n h r = absurd (omega arith)

pub other_comes : (b : List ℕ) (sig : Sig) (grid : Grid) (vs : List Value) (l m : Lexer) (r : Result (Unit {0}) SheetFault) → 0 < length vs → Reached b (in_line sig grid vs) l
    → (Reached b (has_value sig grid vs) l → Goes b r (λ _. Reached b (wants_value sig grid vs) m)) → Goes b r (λ _. Reached b (wants_value sig grid vs) m × ValueComes grid vs m)
other_comes b sig grid [] l m r n at h = absurd (omega arith)
other_comes b sig grid (v ∷ vs) l m r n at h = goes_map b r (λ _. Reached b (wants_value sig grid (v ∷ vs)) m) _ (λ x q. (q, λ e. absurd (false≢true e))) (h at)

-- a blank behind a value that is not the last, and the end of the line behind the last
module _ (sig : Sig) (grid : Grid) (vs : List Value) where
  abbrev by_count : Bool → Tok → At → Result Stand SheetFault
  by_count c tok at =
      cond c (cond (is_mark Blank tok) (Ok (wants_value sig grid vs)) (not_here tok at)) (cond (is_mark LineEnd tok) (Ok (wants_value sig (grid ++ (vs ∷ [])) [])) (not_here tok at))

  pub wants_blank : length vs < length sig → Wants (has_value sig grid vs) None Blank (wants_value sig grid vs)
  wants_blank h = wants_mark (has_value sig grid vs) (wants_value sig grid vs) Blank (λ at tok. ap (λ c. by_count c tok at) (lt-ltb (length vs) (length sig) h))

  pub wants_line_end : length sig ≤ length vs → Wants (has_value sig grid vs) None LineEnd (wants_value sig (grid ++ (vs ∷ [])) [])
  wants_line_end h = wants_mark (has_value sig grid vs) (wants_value sig (grid ++ (vs ∷ [])) []) LineEnd (λ at tok. ap (λ c. by_count c tok at) (le-ltb (length vs) (length sig) h))

-- the end of the line behind the word 'rules'
pub wants_rules : (sig : Sig) (grid : Grid) → Wants (has_word sig grid) None LineEnd (in_rule sig grid [] on_left (wants top))
wants_rules sig grid = wants_mark (has_word sig grid) (in_rule sig grid [] on_left (wants top)) LineEnd (λ at tok. refl)

-- in a weighing

-- a weighing begins, with none of its lines
pub weighing_begun : {b : List ℕ} {s : Stand} {grid : Grid} {l : Lexer} (from : ℕ) (w : Weighing) → Missing w → length grid ≡ from → from % 4 ≡ 0 → from < 8 → Reached b s l → InWeighing b s from 0 grid [] l w
weighing_begun {grid = grid} from w h n a k r = record {
  reached = r;
  weighs = weighs_opened w grid from (weighs_missing w grid from h n a);
  lines = omega arith;
  whole_weighings = a;
  one_or_two = k;
}

module _ {b : List ℕ} {s : Stand} {from line : ℕ} {grid : Grid} {vs : List Value} {l : Lexer} {w : Weighing} (h : InWeighing b s from line grid vs l w) where
  -- which value must come
  pub awaits : {sig : Sig} {n : ℕ} {range : Option (ℕ × ℕ)} → s ≡ wants_value sig grid vs → ValueComes grid vs l → line < 4 → line ≡ n → range_in n (op_of sig (length vs)).arity ≡ range → Awaits b sig grid vs range l
  awaits {sig = sig} {n = n} at comes k is e =
      let place : length grid % 4 ≡ n = omega (arith, h.lines, h.whole_weighings) in
      record {
        reached = subst (λ z. Reached b z l) at h.reached;
        comes = comes;
        few_lines = omega (arith, h.lines, h.whole_weighings, h.one_or_two);
        its_range = ap (λ x. range_in x (op_of sig (length vs)).arity) place ∙ e;
      }

  -- the next token
  pub next_reached : {u : Stand} {m : Lexer} → Reached b u m → InWeighing b u from line grid vs m w
  next_reached r = record { reached = r; weighs = h.weighs; lines = h.lines; whole_weighings = h.whole_weighings; one_or_two = h.one_or_two }

  -- a value was read and put into the weighing
  pub value_done : {u : Stand} {m : Lexer} {n f : ℕ} (v : Value) (after : Weighing) → Reached b u m → line ≡ n → length vs ≡ f → Puts w n f v after → InWeighing b u from line grid (vs ++ (v ∷ [])) m after
  value_done {n = n} v after r is at p = record {
    reached = r;
    weighs = weighs_put w after grid vs v from line h.weighs h.lines (subst (λ x. Puts w x (length vs) v after) (sym is) (subst (λ x. Puts w n x v after) (sym at) p));
    lines = h.lines;
    whole_weighings = h.whole_weighings;
    one_or_two = h.one_or_two;
  }

  -- a line was read
  pub line_done : {u : Stand} {m : Lexer} → Reached b u m → InWeighing b u from (suc line) (grid ++ (vs ∷ [])) [] m w
  line_done r = record {
    reached = r;
    weighs = weighs_opened w (grid ++ (vs ∷ [])) from h.weighs;
    lines = omega (arith, h.lines, length-append grid (vs ∷ []));
    whole_weighings = h.whole_weighings;
    one_or_two = h.one_or_two;
  }

-- behind the first values of a line
pub record InLine (b : List ℕ) (sig : Sig) (from line : ℕ) (grid : Grid) (operator : ℕ) (l : Lexer) (w : Weighing) : Type 0 where
  pub values : List Value
  pub count : length values ≡ operator
  pub here : InWeighing b (in_line sig grid values) from line grid values l w
  pub comes : ValueComes grid values l

-- there are operators
pub some_operators : {b : List ℕ} {sig : Sig} {grid : Grid} {l : Lexer} → Reached b (wants_value sig grid []) l → 0 < length sig
some_operators {b = b} {sig = sig} {grid = grid} {l = l} r = let g = good b (wants_value sig grid []) l r in g.1

pub behind_some : {b : List ℕ} {sig : Sig} {grid : Grid} (vs : List Value) {l : Lexer} → Reached b (in_line sig grid vs) l → 0 < length vs → Reached b (has_value sig grid vs) l
behind_some [] r n = absurd (omega arith)
behind_some (v ∷ vs) r n = r

in_line_pushed : (sig : Sig) (grid : Grid) (vs : List Value) (v : Value) → has_value sig grid (vs ++ (v ∷ [])) ≡ in_line sig grid (vs ++ (v ∷ []))
in_line_pushed sig grid [] v = refl
in_line_pushed sig grid (u ∷ vs) v = refl

comes_pushed : (grid : Grid) (vs : List Value) (v : Value) (l : Lexer) → ValueComes grid (vs ++ (v ∷ [])) l
comes_pushed grid [] v l e = absurd (false≢true e)
comes_pushed grid (u ∷ vs) v l e = absurd (false≢true e)

-- one value more
pub value_more : {b : List ℕ} {sig : Sig} {from line : ℕ} {grid : Grid} {operator : ℕ} {l : Lexer} {w : Weighing} (vs : List Value) (v : Value) → length vs ≡ operator
    → InWeighing b (has_value sig grid (vs ++ (v ∷ []))) from line grid (vs ++ (v ∷ [])) l w → InLine b sig from line grid (operator + 1) l w
value_more {b = b} {sig = sig} {from = from} {line = line} {grid = grid} {l = l} {w = w} vs v n h = record {
  values = vs ++ (v ∷ []);
  count = omega (arith, length_push vs v);
  here = subst (λ s. InWeighing b s from line grid (vs ++ (v ∷ [])) l w) (in_line_pushed sig grid vs v) h;
  comes = comes_pushed grid vs v l;
}

-- behind the first lines of a weighing
pub record BetweenLines (b : List ℕ) (sig : Sig) (from : ℕ) (grid : Grid) (line : ℕ) (l : Lexer) (w : Weighing) : Type 0 where
  pub more : Grid
  pub here : InWeighing b (wants_value sig (grid ++ more) []) from line (grid ++ more) [] l w
  pub comes : line < 4 → ValueComes (grid ++ more) [] l

-- within a weighing the word 'rules' does not come
within : (n from line : ℕ) → n ≡ from + line → from % 4 ≡ 0 → 0 < line → line < 4 → eqb n 4 || eqb n 8 ≡ false
within n from line e a low high =
    let not_four : n ≡ 4 → ⊥ = λ q. absurd (omega arith) in
    let not_eight : n ≡ 8 → ⊥ = λ q. absurd (omega arith) in
    grind (arith, nat_tests)

module _ {b : List ℕ} {sig : Sig} {from : ℕ} {grid : Grid} {l : Lexer} {w : Weighing} where
  pub no_lines : InWeighing b (wants_value sig grid []) from 0 grid [] l w → ValueComes grid [] l → BetweenLines b sig from grid 0 l w
  no_lines h comes = record {
    more = [];
    here = subst (λ g. InWeighing b (wants_value sig g []) from 0 g [] l w) (sym (append-nil grid)) h;
    comes = λ _. subst (λ g. ValueComes g [] l) (sym (append-nil grid)) comes;
  }

  -- one line more
  pub line_more : {line : ℕ} (more : Grid) (vs : List Value) → InWeighing b (wants_value sig ((grid ++ more) ++ (vs ∷ [])) []) from (suc line) ((grid ++ more) ++ (vs ∷ [])) [] l w → BetweenLines b sig from grid (line + 1) l w
  line_more {line = line} more vs h =
      let next : suc line ≡ line + 1 = omega arith in
      let here = subst (λ k. InWeighing b (wants_value sig (grid ++ (more ++ (vs ∷ []))) []) from k (grid ++ (more ++ (vs ∷ []))) [] l w) next
      (subst (λ g. InWeighing b (wants_value sig g []) from (suc line) g [] l w) (append_assoc grid more (vs ∷ [])) h) in
      record {
        more = more ++ (vs ∷ []);
        here = here;
        comes = λ k e. absurd (false≢true (sym (within (length (grid ++ (more ++ (vs ∷ [])))) from (line + 1) here.lines here.whole_weighings (omega arith) k) ∙ e));
      }

-- the word 'rules' was not taken
pub not_taken : {b : List ℕ} {sig : Sig} {grid : Grid} {l m : Lexer} → (m ≡ l) × NoWord l → Reached b (wants_value sig grid []) l → Reached b (wants_value sig grid []) m × ValueComes grid [] m
not_taken {b = b} {sig = sig} {grid = grid} h r = (subst (Reached b (wants_value sig grid [])) (sym (h.0)) r, λ e. subst NoWord (sym (h.0)) (h.1))
