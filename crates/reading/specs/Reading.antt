-- How a ticket's text is read, token by token, and which token is refused.
use Rattle.std.specs.Prelude.{ℕ, zero, suc, cond, List, [], ◌∷◌, length, Some, None, Ok, Err, Option, Result, nat_le}
use Rattle.terms.specs.Term.{Term, instrument, apply, Terms, nil, cons}
use Rattle.terms.specs.Signature.{Sig, op_of, found}
use Rattle.reading.specs.declared.token.At.{At}
use Rattle.reading.specs.declared.token.Mark.{Mark}
use Rattle.reading.specs.declared.token.Mark.TheVariants.{Opening, Closing, Comma, Equals, Dash, Blank, LineEnd}
use Rattle.reading.specs.declared.fault.TextFault.{TextFault}
use Rattle.reading.specs.declared.fault.TextFault.TheVariants.{Stray, BadNumber, Unexpected, Undeclared, WrongArity, PastLimit}
use Rattle.reading.specs.Tokens.{Tok, a_name, a_number, an_instrument, a_variable, a_mark, a_stray, tokens, origin, past}
use Rattle.reading.specs.Numbers.{plain, instrument_number}

-- the operators whose arguments are being read, the inmost first: its number, its place, the arguments read, and how many follow the one being read
pub data Context : Type 0 where
  top : Context
  within : ℕ → At → Terms → ℕ → Context → Context

-- what may come: a term; '(' behind an operator that takes arguments, one and so many more; or what follows a term, with the place of an operator without arguments that stands just before
pub data State : Type 0 where
  wants : Context → State
  opens : ℕ → At → ℕ → Context → State
  has : Term → Option At → Context → State

-- a row with one more term at its end
abbrev pub and_then : Terms → Term → Terms
and_then nil u = cons u nil
and_then (cons t ts) u = cons t (and_then ts u)

abbrev pub unless_some : Option ℕ → At → TextFault → TextFault
unless_some None at f = BadNumber at
unless_some (Some n) at f = f

-- the fault of a token that is refused with f: what is wrong with the token by itself goes first
abbrev pub fault_of : Tok → At → TextFault → TextFault
fault_of (a_name s) at f = f
fault_of (a_number s) at f = cond (plain s) f (BadNumber at)
fault_of (an_instrument s) at f = unless_some (instrument_number s) at f
fault_of (a_variable x) at f = f
fault_of (a_mark m) at f = f
fault_of (a_stray b) at f = Stray at

-- behind an operator of so many arguments
abbrev pub named : ℕ → ℕ → At → Context → State
named f zero at k = has (apply f nil) (Some at) k
named f (suc n) at k = opens f at n k

abbrev pub with_name : Sig → Option ℕ → At → Context → Result State TextFault
with_name sig None at k = Err (Undeclared at)
with_name sig (Some f) at k = Ok (named f (op_of sig f).arity at k)

abbrev pub with_number : Option ℕ → At → Context → Result State TextFault
with_number None at k = Err (BadNumber at)
with_number (Some n) at k = Ok (has (instrument n) None k)

-- where a term may begin
abbrev pub on_wants : Sig → Tok → At → Context → Result State TextFault
on_wants sig (a_name s) at k = with_name sig (found sig s) at k
on_wants sig (a_number s) at k = Err (fault_of (a_number s) at (Unexpected at))
on_wants sig (an_instrument s) at k = with_number (instrument_number s) at k
on_wants sig (a_variable x) at k = Err (Unexpected at)
on_wants sig (a_mark m) at k = Err (Unexpected at)
on_wants sig (a_stray b) at k = Err (Stray at)

-- where '(' must stand, behind the operator f at a
abbrev pub on_opens_mark : Mark → ℕ → At → ℕ → Context → Result State TextFault
on_opens_mark Opening f a n k = Ok (wants (within f a nil n k))
on_opens_mark Closing f a n k = Err (WrongArity a)
on_opens_mark Comma f a n k = Err (WrongArity a)
on_opens_mark Equals f a n k = Err (WrongArity a)
on_opens_mark Dash f a n k = Err (WrongArity a)
on_opens_mark Blank f a n k = Err (WrongArity a)
on_opens_mark LineEnd f a n k = Err (WrongArity a)

abbrev pub on_opens : Tok → At → ℕ → At → ℕ → Context → Result State TextFault
on_opens (a_name s) at f a n k = Err (WrongArity a)
on_opens (a_number s) at f a n k = Err (fault_of (a_number s) at (WrongArity a))
on_opens (an_instrument s) at f a n k = Err (fault_of (an_instrument s) at (WrongArity a))
on_opens (a_variable x) at f a n k = Err (WrongArity a)
on_opens (a_mark m) at f a n k = on_opens_mark m f a n k
on_opens (a_stray b) at f a n k = Err (Stray at)

-- '(' behind a term: a needless one behind an operator without arguments
abbrev pub needless : Option At → At → TextFault
needless None at = Unexpected at
needless (Some a) at = WrongArity a

-- ')' behind a term
abbrev pub closed : Term → Context → At → Result State TextFault
closed t top at = Err (Unexpected at)
closed t (within f a ts zero k) at = Ok (has (apply f (and_then ts t)) None k)
closed t (within f a ts (suc n) k) at = Err (WrongArity a)

-- ',' behind a term
abbrev pub continued : Term → Context → At → Result State TextFault
continued t top at = Err (Unexpected at)
continued t (within f a ts zero k) at = Err (WrongArity a)
continued t (within f a ts (suc n) k) at = Ok (wants (within f a (and_then ts t) n k))

abbrev pub on_has_mark : Mark → At → Term → Option At → Context → Result State TextFault
on_has_mark Opening at t m k = Err (needless m at)
on_has_mark Closing at t m k = closed t k at
on_has_mark Comma at t m k = continued t k at
on_has_mark Equals at t m k = Err (Unexpected at)
on_has_mark Dash at t m k = Err (Unexpected at)
on_has_mark Blank at t m k = Err (Unexpected at)
on_has_mark LineEnd at t m k = Err (Unexpected at)

-- behind a term
abbrev pub on_has : Tok → At → Term → Option At → Context → Result State TextFault
on_has (a_name s) at t m k = Err (Unexpected at)
on_has (a_number s) at t m k = Err (fault_of (a_number s) at (Unexpected at))
on_has (an_instrument s) at t m k = Err (fault_of (an_instrument s) at (Unexpected at))
on_has (a_variable x) at t m k = Err (Unexpected at)
on_has (a_mark mk) at t m k = on_has_mark mk at t m k
on_has (a_stray b) at t m k = Err (Stray at)

-- one token
abbrev pub step : Sig → State → At → Tok → Result State TextFault
step sig (wants k) at tok = on_wants sig tok at k
step sig (opens f a n k) at tok = on_opens tok at f a n k
step sig (has t m k) at tok = on_has tok at t m k

-- the end of the text
abbrev pub ending : State → At → Result Term TextFault
ending (wants k) at = Err (Unexpected at)
ending (opens f a n k) at = Err (WrongArity a)
ending (has t m top) at = Ok t
ending (has t m (within f a ts n k)) at = Err (Unexpected at)

-- what comes behind a success; a fault is passed on
abbrev pub chain : {A B E : Type 0} → Result A E → (A → Result B E) → Result B E
chain (Ok s) f = f s
chain (Err e) f = Err e

-- all tokens from a state on, a step for each, and the end of the text
abbrev pub run_with : {S A E : Type 0} → (S → At → Tok → Result S E) → (S → At → Result A E) → S → At → List Tok → Result A E
run_with step end s at [] = end s at
run_with step end s at (k ∷ ks) = chain (step s at k) (λ u. run_with step end u (past at k) ks)

abbrev pub run : Sig → State → At → List Tok → Result Term TextFault
run sig = run_with (step sig) ending

-- how many bytes a ticket handed in may have
unfoldable pub ticket_limit : ℕ
ticket_limit = 4096

unfoldable pub read_ticket : Sig → List ℕ → Result Term TextFault
read_ticket sig b = cond (nat_le (length b) ticket_limit) (run sig (wants top) origin (tokens b)) (Err (PastLimit origin))
