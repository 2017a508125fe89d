-- What holds of the states of a side.
use Rattle.std.proofs.Common.{ℕ, suc, ◌+◌, ◌≤◌, max, List, arith}
use native.Mathlib.Nat.{le-max_left, le-max_right, max-le, add-max-add_right}
use Rattle.terms.specs.Term.{Term, Terms, nil, cons}
use Rattle.terms.specs.Rule.{levels, levels_in, OperatorFirst}
use Rattle.terms.specs.Signature.{Sig}
use Rattle.terms.specs.Ticket.{TermOf, TermsOf}
use Rattle.terms.specs.Substitution.{occurrences}
use Rattle.reading.specs.declared.token.At.{At}
use Rattle.reading.specs.Tokens.{Tok}
use Rattle.reading.specs.Reading.{Context, top, within, State, wants, opens, has, and_then}
use Rattle.reading.proofs.States.{state_tokens, FrameOf, ContextOf, StateOf}
use Rattle.sheet_reading.specs.Sheet.{Limits}
use Rattle.sheet_reading.specs.Sides.{Hand, on_left, on_right, depth}
use Rattle.sheet_reading.specs.Laws.{count, symbol, the_variable, Behind}

-- of a side: operators are declared, over as many arguments as they take, and places are those of the tokens

abbrev pub Frame : Sig → ℕ → At → Terms → ℕ → List Tok → Type 0
Frame sig f a ts n ks = FrameOf (TermsOf sig) (Behind ks) sig f a ts n

abbrev pub ContextShaped : Sig → List Tok → Context → Type 0
ContextShaped sig = ContextOf (TermOf sig) (TermsOf sig) Behind sig

abbrev pub StateShaped : Sig → List Tok → State → Type 0
StateShaped sig = StateOf (TermOf sig) (TermsOf sig) Behind sig

pub terms_then : (sig : Sig) (ts : Terms) (t : Term) → TermsOf sig ts → TermOf sig t → TermsOf sig (and_then ts t)
terms_then sig nil t a b = (b, tt)
terms_then sig (cons u ts) t a b = (a.0, terms_then sig ts t a.1 b)

-- no more than so many levels are read

abbrev pub ContextLow : ℕ → Context → Type 0
ContextLow most top = Unit {0}
ContextLow most (within f a ts n k) = (levels_in ts + suc (depth k) ≤ most) × ContextLow most k

abbrev pub StateLow : ℕ → State → Type 0
StateLow most (wants k) = ContextLow most k
StateLow most (opens f a n k) = (suc (depth k) ≤ most) × ContextLow most k
StateLow most (has t b k) = (levels t + depth k ≤ most) × ContextLow most k

pub depth_low : (most : ℕ) (k : Context) → ContextLow most k → depth k ≤ most
depth_low most top h = omega arith
depth_low most (within f a ts n k) h = omega arith

pub max_plus : (most e a b : ℕ) → a + e ≤ most → b + e ≤ most → max a b + e ≤ most
max_plus most e a b p q = rw (← add-max-add_right a b e) (max-le p q)

pub levels_then : (most e : ℕ) (ts : Terms) (t : Term) → levels_in ts + e ≤ most → levels t + e ≤ most → levels_in (and_then ts t) + e ≤ most
levels_then most e nil t p q = max_plus most e (levels t) 0 q (omega arith)
levels_then most e (cons u ts) t p q =
    let l = le-max_left (levels u) (levels_in ts) in
    let r = le-max_right (levels u) (levels_in ts) in
    max_plus most e (levels u) (levels_in (and_then ts t)) (omega arith) (levels_then most e ts t (omega arith) q)

-- a variable may stand so often: at most once on the left, and on the right only if it stands on the left
abbrev pub MayStand : Hand → ℕ → ℕ → Type 0
MayStand on_left x n = n ≤ 1
MayStand (on_right l) x n = 1 ≤ n → 1 ≤ occurrences x l

-- a whole left side has an operator in front
abbrev pub Fronted : Hand → State → Type 0
Fronted on_left (wants k) = Unit {0}
Fronted on_left (opens f a n k) = Unit {0}
Fronted on_left (has t b top) = OperatorFirst t
Fronted on_left (has t b (within f a ts n k)) = Unit {0}
Fronted (on_right l) s = Unit {0}

-- a side has begun so, its size aside
pub record Begun (sig : Sig) (before : List Tok) (d : Hand) (s : State) : Type 0 where
  pub shaped : StateShaped sig before s
  pub may_stand : (x : ℕ) → MayStand d x (count (the_variable x) (state_tokens sig s))
  pub fronted : Fronted d s

-- and within limits
pub record Good (sig : Sig) (m : Limits) (before : List Tok) (d : Hand) (s : State) : Type 0 where
  pub begun : Begun sig before d s
  pub few : count symbol (state_tokens sig s) ≤ m.symbols
  pub low : StateLow m.levels s
