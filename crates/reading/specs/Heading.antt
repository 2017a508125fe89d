-- How the two lines that head a sheet are read: its names, and its argument counts; and their text.
use Rattle.std.specs.Prelude.{ℕ, suc, cond, List, [], ◌∷◌, ◌++◌, length, Some, None, Ok, Err, decimal, Option, Result, nat_le, nat_lt, slice_set}
use Rattle.terms.specs.Signature.{Sig, op_of, found}
use Rattle.reading.specs.declared.token.At.{At}
use Rattle.reading.specs.declared.token.Mark.{Mark}
use Rattle.reading.specs.declared.token.Mark.TheVariants.{Opening, Closing, Comma, Equals, Dash, Blank, LineEnd}
use Rattle.reading.specs.declared.heading.Stage.{Stage}
use Rattle.reading.specs.declared.heading.Stage.TheVariants.{WantsName, HasName, WantsCount, HasCount, Done}
use Rattle.reading.specs.declared.fault.TextFault.TheVariants.{BadNumber, Unexpected, PastLimit}
use Rattle.reading.specs.declared.fault.SheetFault.{SheetFault}
use Rattle.reading.specs.declared.fault.SheetFault.TheVariants.{Text, Repeated}
use Rattle.reading.specs.Tokens.{Tok, a_name, a_number, an_instrument, a_variable, a_mark, a_stray, tokens, origin}
use Rattle.reading.specs.Numbers.{numbered}
use Rattle.reading.specs.Reading.{fault_of, run_with}

-- the operators so far, and what may come
abbrev pub Head : Type 0
Head = Sig × Stage

abbrev pub Outcome : Type 0
Outcome = Result Head SheetFault

-- a token that is not allowed here
abbrev pub not_here : {A : Type 0} → Tok → At → Result A SheetFault
not_here tok at = Err (Text (fault_of tok at (Unexpected at)))

-- a name: one past the limit is refused for that, whether it stands twice or not
abbrev pub named_once : Option ℕ → Sig → List ℕ → At → Outcome
named_once (Some f) sig s at = Err (Repeated at)
named_once None sig s at = Ok (sig ++ record { name = s; arity = 0 } ∷ [], HasName)

abbrev pub wants_name : ℕ → Tok → Sig → At → Outcome
wants_name most (a_name s) sig at = cond (nat_le most (length sig)) (Err (Text (PastLimit at))) (named_once (found sig s) sig s at)
wants_name most (a_number s) sig at = not_here (a_number s) at
wants_name most (an_instrument s) sig at = not_here (an_instrument s) at
wants_name most (a_variable x) sig at = not_here (a_variable x) at
wants_name most (a_mark m) sig at = not_here (a_mark m) at
wants_name most (a_stray b) sig at = not_here (a_stray b) at

abbrev pub has_name_mark : Mark → Sig → At → Outcome
has_name_mark Opening sig at = not_here (a_mark Opening) at
has_name_mark Closing sig at = not_here (a_mark Closing) at
has_name_mark Comma sig at = not_here (a_mark Comma) at
has_name_mark Equals sig at = not_here (a_mark Equals) at
has_name_mark Dash sig at = not_here (a_mark Dash) at
has_name_mark Blank sig at = Ok (sig, WantsName)
has_name_mark LineEnd sig at = Ok (sig, WantsCount 0)

abbrev pub has_name : Tok → Sig → At → Outcome
has_name (a_name s) sig at = not_here (a_name s) at
has_name (a_number s) sig at = not_here (a_number s) at
has_name (an_instrument s) sig at = not_here (an_instrument s) at
has_name (a_variable x) sig at = not_here (a_variable x) at
has_name (a_mark m) sig at = has_name_mark m sig at
has_name (a_stray b) sig at = not_here (a_stray b) at

-- a count, 0 to 3
abbrev pub counted : Option ℕ → Sig → ℕ → At → Outcome
counted None sig f at = Err (Text (BadNumber at))
counted (Some n) sig f at = Ok (slice_set sig f (record { name = (op_of sig f).name; arity = n }), HasCount f)

abbrev pub wants_count : Tok → Sig → ℕ → At → Outcome
wants_count (a_name s) sig f at = not_here (a_name s) at
wants_count (a_number s) sig f at = counted (numbered 3 s) sig f at
wants_count (an_instrument s) sig f at = not_here (an_instrument s) at
wants_count (a_variable x) sig f at = not_here (a_variable x) at
wants_count (a_mark m) sig f at = not_here (a_mark m) at
wants_count (a_stray b) sig f at = not_here (a_stray b) at

abbrev pub has_count_mark : Mark → Sig → ℕ → At → Outcome
has_count_mark Opening sig f at = not_here (a_mark Opening) at
has_count_mark Closing sig f at = not_here (a_mark Closing) at
has_count_mark Comma sig f at = not_here (a_mark Comma) at
has_count_mark Equals sig f at = not_here (a_mark Equals) at
has_count_mark Dash sig f at = not_here (a_mark Dash) at
has_count_mark Blank sig f at = cond (nat_lt (suc f) (length sig)) (Ok (sig, WantsCount (suc f))) (not_here (a_mark Blank) at)
has_count_mark LineEnd sig f at = cond (nat_lt (suc f) (length sig)) (not_here (a_mark LineEnd) at) (Ok (sig, Done))

abbrev pub has_count : Tok → Sig → ℕ → At → Outcome
has_count (a_name s) sig f at = not_here (a_name s) at
has_count (a_number s) sig f at = not_here (a_number s) at
has_count (an_instrument s) sig f at = not_here (an_instrument s) at
has_count (a_variable x) sig f at = not_here (a_variable x) at
has_count (a_mark m) sig f at = has_count_mark m sig f at
has_count (a_stray b) sig f at = not_here (a_stray b) at

-- one token, where so many operators may be declared
abbrev pub head_step : ℕ → Head → At → Tok → Outcome
head_step most (sig, WantsName) at tok = wants_name most tok sig at
head_step most (sig, HasName) at tok = has_name tok sig at
head_step most (sig, WantsCount f) at tok = wants_count tok sig f at
head_step most (sig, HasCount f) at tok = has_count tok sig f at
head_step most (sig, Done) at tok = not_here tok at

-- the end of the text
abbrev pub head_end : Head → At → Result Sig SheetFault
head_end (sig, WantsName) at = Err (Text (Unexpected at))
head_end (sig, HasName) at = Err (Text (Unexpected at))
head_end (sig, WantsCount f) at = Err (Text (Unexpected at))
head_end (sig, HasCount f) at = Err (Text (Unexpected at))
head_end (sig, Done) at = Ok sig

abbrev pub head_run : ℕ → Head → At → List Tok → Result Sig SheetFault
head_run most = run_with (head_step most) head_end

-- how many bytes a sheet may have
unfoldable pub sheet_limit : ℕ
sheet_limit = 32768

unfoldable pub read_heading : List ℕ → Result Sig SheetFault
read_heading b = cond (nat_le (length b) sheet_limit) (head_run 32 ([], WantsName) origin (tokens b)) (Err (Text (PastLimit origin)))

-- a line: a blank between two parts, and the end of the line
abbrev pub line_of : {A : Type 0} → (A → List ℕ) → List A → List ℕ
line_of show [] = 10 ∷ []
line_of show (x ∷ []) = show x ++ (10 ∷ [])
line_of show (x ∷ y ∷ xs) = show x ++ (32 ∷ line_of show (y ∷ xs))

-- the text of a heading: the line of names and the line of counts
abbrev pub heading_text : Sig → List ℕ
heading_text sig = line_of (λ o. o.name) sig ++ line_of (λ o. decimal o.arity) sig
