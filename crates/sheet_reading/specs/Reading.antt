-- How a sheet's text is read, token by token, and which token is refused.
use Rattle.std.specs.Prelude.{ℕ, Bool, false, cond, ◌&&◌, ◌||◌, List, [], ◌∷◌, ◌++◌, length, Some, None, Ok, Err, codes, Option, Result, ◌==◌, nat_le, nat_lt}
use Rattle.std.specs.Str.{bytes_eq}
use Rattle.terms.specs.Term.{Term}
use Rattle.terms.specs.Rule.{Rule}
use Rattle.terms.specs.Signature.{Sig, op_of}
use Rattle.reading.specs.declared.token.At.{At}
use Rattle.reading.specs.declared.token.Mark.{Mark}
use Rattle.reading.specs.declared.token.Mark.TheVariants.{Equals, Dash, Blank, LineEnd}
use Rattle.reading.specs.declared.heading.Stage.TheVariants.{WantsName, HasName, WantsCount, HasCount, Done}
use Rattle.reading.specs.declared.fault.TextFault.TheVariants.{BadNumber, Unexpected, WrongArity, PastLimit}
use Rattle.reading.specs.Tokens.{Tok, a_name, a_number, an_instrument, a_variable, a_mark, a_stray, tokens, mark_byte, origin}
use Rattle.reading.specs.Numbers.{numbered}
use Rattle.reading.specs.Reading.{top, within, State, wants, opens, has, chain, run_with}
use Rattle.reading.specs.Heading.{Head, sheet_limit, head_step, not_here}
use Rattle.reading.specs.declared.fault.SheetFault.{SheetFault}
use Rattle.reading.specs.declared.fault.SheetFault.TheVariants.{Text}
use Rattle.sheet_reading.specs.Values.{Value, Grid, range_of}
use Rattle.sheet_reading.specs.Sheet.{Sheet, Limits, limits}
use Rattle.sheet_reading.specs.Sides.{Hand, on_left, on_right, side_step}

-- kinds of tokens

abbrev pub is_mark : Mark → Tok → Bool
is_mark m (a_name s) = false
is_mark m (a_number s) = false
is_mark m (an_instrument s) = false
is_mark m (a_variable x) = false
is_mark m (a_mark n) = mark_byte m == mark_byte n
is_mark m (a_stray b) = false

abbrev pub is_word : List ℕ → Tok → Bool
is_word w (a_name s) = bytes_eq s w
is_word w (a_number s) = false
is_word w (an_instrument s) = false
is_word w (a_variable x) = false
is_word w (a_mark n) = false
is_word w (a_stray b) = false

-- the digits of a number
abbrev pub digits_of : Tok → Option (List ℕ)
digits_of (a_name s) = None
digits_of (a_number s) = Some s
digits_of (an_instrument s) = None
digits_of (a_variable x) = None
digits_of (a_mark n) = None
digits_of (a_stray b) = None

-- where the reading of a sheet stands
pub data Stand : Type 0 where
  -- in the lines of names and counts
  in_heading : Head → Stand
  -- in a line of values, behind the whole lines and the values before it: a value comes; or a blank, or the end of the line
  wants_value : Sig → Grid → List Value → Stand
  has_value : Sig → Grid → List Value → Stand
  -- behind the word 'rules'
  has_word : Sig → Grid → Stand
  -- in a rule, behind the whole rules before it
  in_rule : Sig → Grid → List Rule → Hand → State → Stand

abbrev pub Move : Type 0
Move = Result Stand SheetFault

-- behind the line of counts come lines of values
abbrev pub headed : Head → Stand
headed (sig, WantsName) = in_heading (sig, WantsName)
headed (sig, HasName) = in_heading (sig, HasName)
headed (sig, WantsCount f) = in_heading (sig, WantsCount f)
headed (sig, HasCount f) = in_heading (sig, HasCount f)
headed (sig, Done) = wants_value sig [] []

-- a number from the least to the largest
abbrev pub from_least : ℕ → Option ℕ → At → Result Value SheetFault
from_least least None at = Err (Text (BadNumber at))
from_least least (Some n) at = cond (nat_le least n) (Ok (Some n)) (Err (Text (BadNumber at)))

abbrev pub number_in : ℕ × ℕ → Option (List ℕ) → Tok → At → Result Value SheetFault
number_in r None tok at = not_here tok at
number_in r (Some s) tok at = from_least r.0 (numbered r.1 s) at

-- the value that a token is: a number in range, or '-' where there is no range
abbrev pub value_of : Option (ℕ × ℕ) → Tok → At → Result Value SheetFault
value_of None tok at = cond (is_mark Dash tok) (Ok None) (not_here tok at)
value_of (Some r) tok at = number_in r (digits_of tok) tok at

-- whether the line of the word 'rules' may come: behind one weighing or two
abbrev pub rules_may_come : Grid → List Value → Bool
rules_may_come grid [] = length grid == 4 || length grid == 8
rules_may_come grid (v ∷ vs) = false

-- where a value must stand, there being no more than eight lines of them
abbrev pub on_value : Sig → Grid → List Value → Tok → At → Move
on_value sig grid vs tok at =
    cond (nat_lt (length grid) 8)
    (chain (value_of (range_of (length grid) (op_of sig (length vs)).arity) tok at) (λ v. Ok (has_value sig grid (vs ++ (v ∷ [])))))
    (not_here tok at)

abbrev pub on_line : Sig → Grid → List Value → Tok → At → Move
on_line sig grid vs tok at = cond (rules_may_come grid vs && is_word (codes "rules") tok) (Ok (has_word sig grid)) (on_value sig grid vs tok at)

-- behind a value: a blank where more operators follow, and else the end of the line
abbrev pub behind_value : Sig → Grid → List Value → Tok → At → Move
behind_value sig grid vs tok at =
    cond (nat_lt (length vs) (length sig))
    (cond (is_mark Blank tok) (Ok (wants_value sig grid vs)) (not_here tok at))
    (cond (is_mark LineEnd tok) (Ok (wants_value sig (grid ++ (vs ∷ [])) [])) (not_here tok at))

abbrev pub behind_word : Sig → Grid → Tok → At → Move
behind_word sig grid tok at = cond (is_mark LineEnd tok) (Ok (in_rule sig grid [] on_left (wants top))) (not_here tok at)

-- what ends a side: '=' the left one, the end of the line the right one
abbrev pub ends_side : Hand → Tok → Bool
ends_side on_left tok = is_mark Equals tok
ends_side (on_right l) tok = is_mark LineEnd tok

-- behind a side: the right one, or the next rule
abbrev pub behind_side : Sig → Grid → List Rule → Hand → Term → Stand
behind_side sig grid rules on_left t = in_rule sig grid rules (on_right t) (wants top)
behind_side sig grid rules (on_right l) t = in_rule sig grid (rules ++ (record { left = l; right = t } ∷ [])) on_left (wants top)

abbrev pub in_side : Limits → Sig → Grid → List Rule → Hand → State → Tok → At → Move
in_side m sig grid rules d s tok at = chain (side_step m sig (length rules) d s at tok) (λ u. Ok (in_rule sig grid rules d u))

abbrev pub on_rule : Limits → Sig → Grid → List Rule → Hand → State → Tok → At → Move
on_rule m sig grid rules d (wants k) tok at = in_side m sig grid rules d (wants k) tok at
on_rule m sig grid rules d (opens f a n k) tok at = in_side m sig grid rules d (opens f a n k) tok at
on_rule m sig grid rules d (has t b top) tok at = cond (ends_side d tok) (Ok (behind_side sig grid rules d t)) (in_side m sig grid rules d (has t b top) tok at)
on_rule m sig grid rules d (has t b (within f a ts n k)) tok at = in_side m sig grid rules d (has t b (within f a ts n k)) tok at

-- one token
abbrev pub sheet_step : Limits → Stand → At → Tok → Move
sheet_step m (in_heading h) at tok = chain (head_step m.operators h at tok) (λ g. Ok (headed g))
sheet_step m (wants_value sig grid vs) at tok = on_line sig grid vs tok at
sheet_step m (has_value sig grid vs) at tok = behind_value sig grid vs tok at
sheet_step m (has_word sig grid) at tok = behind_word sig grid tok at
sheet_step m (in_rule sig grid rules d s) at tok = on_rule m sig grid rules d s tok at

-- the end of the text in a rule: the sheet may end where a rule may begin
abbrev pub rule_end : Sig → Grid → List Rule → Hand → State → At → Result Sheet SheetFault
rule_end sig grid rules on_left (wants top) at = Ok (record { operators = sig; values = grid; rules = rules })
rule_end sig grid rules on_left (wants (within f a ts n k)) at = Err (Text (Unexpected at))
rule_end sig grid rules (on_right l) (wants k) at = Err (Text (Unexpected at))
rule_end sig grid rules d (opens f a n k) at = Err (Text (WrongArity a))
rule_end sig grid rules d (has t b k) at = Err (Text (Unexpected at))

-- the end of the text
abbrev pub sheet_end : Stand → At → Result Sheet SheetFault
sheet_end (in_heading h) at = Err (Text (Unexpected at))
sheet_end (wants_value sig grid vs) at = Err (Text (Unexpected at))
sheet_end (has_value sig grid vs) at = Err (Text (Unexpected at))
sheet_end (has_word sig grid) at = Err (Text (Unexpected at))
sheet_end (in_rule sig grid rules d s) at = rule_end sig grid rules d s at

-- all tokens from a stand on, and the end
abbrev pub sheet_run : Limits → Stand → At → List Tok → Result Sheet SheetFault
sheet_run m = run_with (sheet_step m) sheet_end

unfoldable pub read_sheet : List ℕ → Result Sheet SheetFault
read_sheet b = cond (nat_le (length b) sheet_limit) (sheet_run limits (in_heading ([], WantsName)) origin (tokens b)) (Err (Text (PastLimit origin)))
