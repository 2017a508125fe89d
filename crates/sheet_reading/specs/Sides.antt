-- How a side of a rule is read: as a ticket is, but that variables too may stand where a term may begin, and that a side has its limits.
use Rattle.std.specs.Prelude.{ℕ, zero, suc, ◌+◌, Bool, cond, ◌&&◌, None, Ok, Err, Result, nat_lt}
use Rattle.terms.specs.Term.{Term, variable, symbols_in}
use Rattle.terms.specs.Signature.{Sig}
use Rattle.terms.specs.Substitution.{occurrences, occurrences_in}
use Rattle.reading.specs.declared.token.At.{At}
use Rattle.reading.specs.declared.fault.TextFault.{TextFault}
use Rattle.reading.specs.declared.fault.TextFault.TheVariants.{PastLimit}
use Rattle.reading.specs.Tokens.{Tok, a_name, a_number, an_instrument, a_variable, a_mark, a_stray}
use Rattle.reading.specs.Reading.{Context, top, within, State, wants, opens, has, on_wants, on_opens, on_has, chain}
use Rattle.reading.specs.declared.fault.SheetFault.{SheetFault}
use Rattle.reading.specs.declared.fault.SheetFault.TheVariants.{Text, Headless, Doubled, Unbound}
use Rattle.sheet_reading.specs.Sheet.{Limits}

-- the side that is read: the left one, or the right one beside this left one
pub data Hand : Type 0 where
  on_left : Hand
  on_right : Term → Hand

-- the symbols read so far of a term whose next argument is still to come
abbrev pub symbols_before : Context → ℕ
symbols_before top = zero
symbols_before (within f a ts n k) = suc (symbols_in ts) + symbols_before k

-- how many operators stand around the next argument
abbrev pub depth : Context → ℕ
depth top = zero
depth (within f a ts n k) = suc (depth k)

-- how often a variable stands in what is read so far
abbrev pub occurrences_before : ℕ → Context → ℕ
occurrences_before x top = zero
occurrences_before x (within f a ts n k) = occurrences_in x ts + occurrences_before x k

-- whether one symbol more is within the limits, with so many rules read before
abbrev pub room : Limits → ℕ → Context → Bool
room m rules k = nat_lt rules m.rules && (nat_lt (symbols_before k) m.symbols && nat_lt (depth k) m.levels)

abbrev pub within_room : {A : Type 0} → Limits → ℕ → Context → At → Result A SheetFault → Result A SheetFault
within_room m rules k at r = cond (room m rules k) r (Err (Text (PastLimit at)))

-- a fault of the text sits whole in the fault of the sheet
abbrev pub in_text : {A : Type 0} → Result A TextFault → Result A SheetFault
in_text (Ok s) = Ok s
in_text (Err f) = Err (Text f)

-- a left side has an operator in front
abbrev pub fronted : Hand → Context → At → State → Result State SheetFault
fronted on_left top at s = Err (Headless at)
fronted on_left (within f a ts n k) at s = Ok s
fronted (on_right l) k at s = Ok s

-- a left side has no variable twice; a right side has those of the left side
abbrev pub variable_on : Hand → ℕ → Context → At → Result State SheetFault
variable_on on_left x k at = cond (nat_lt 0 (occurrences_before x k)) (Err (Doubled at)) (Ok (has (variable x) None k))
variable_on (on_right l) x k at = cond (nat_lt 0 (occurrences x l)) (Ok (has (variable x) None k)) (Err (Unbound at))

-- where a term may begin; limits go behind what is wrong with the text, and before what is wrong with the sheet
abbrev pub side_wants : Limits → Sig → ℕ → Hand → Tok → At → Context → Result State SheetFault
side_wants m sig rules d (a_name s) at k = chain (in_text (on_wants sig (a_name s) at k)) (λ u. within_room m rules k at (Ok u))
side_wants m sig rules d (a_number s) at k = in_text (on_wants sig (a_number s) at k)
side_wants m sig rules d (an_instrument s) at k = chain (in_text (on_wants sig (an_instrument s) at k)) (λ u. within_room m rules k at (fronted d k at u))
side_wants m sig rules d (a_variable x) at k = within_room m rules k at (chain (fronted d k at (wants k)) (λ _. variable_on d x k at))
side_wants m sig rules d (a_mark j) at k = in_text (on_wants sig (a_mark j) at k)
side_wants m sig rules d (a_stray b) at k = in_text (on_wants sig (a_stray b) at k)

-- one token of a side, with so many rules read before
abbrev pub side_step : Limits → Sig → ℕ → Hand → State → At → Tok → Result State SheetFault
side_step m sig rules d (wants k) at tok = side_wants m sig rules d tok at k
side_step m sig rules d (opens f a n k) at tok = in_text (on_opens tok at f a n k)
side_step m sig rules d (has t b k) at tok = in_text (on_has tok at t b k)
