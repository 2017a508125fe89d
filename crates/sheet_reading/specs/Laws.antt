-- What reading a sheet is, in the words of the subject.
use Rattle.std.specs.Prelude.{◌≡◌, ℕ, ◌+◌, ◌<◌, ◌≤◌, cond, ◌⊎◌, List, [], ◌∷◌, ◌++◌, length, take, drop, Some, None, Ok, Err, Result, ◌==◌, ◌≢◌}
use Rattle.terms.specs.Term.{Term, Terms}
use Rattle.terms.specs.Signature.{Sig, op_of, Declared, found}
use Rattle.terms.specs.Ticket.{TermOf, TermsOf}
use Rattle.terms.specs.Substitution.{occurrences}
use Rattle.terms.specs.Text.{text_of}
use Rattle.reading.specs.declared.token.At.{At}
use Rattle.reading.specs.declared.token.Mark.{Mark}
use Rattle.reading.specs.declared.token.Mark.TheVariants.{Opening, Closing, Equals, Blank, LineEnd}
use Rattle.reading.specs.declared.fault.TextFault.{TextFault}
use Rattle.reading.specs.declared.fault.TextFault.TheVariants.{Stray, BadNumber, Unexpected, Undeclared, WrongArity, PastLimit}
use Rattle.reading.specs.Tokens.{Tok, a_name, a_number, an_instrument, a_variable, a_mark, a_stray, tokens, whole, lines, origin}
use Rattle.reading.specs.Heading.{sheet_limit}
use Rattle.reading.specs.Laws.{Wrong, first_of, ShowsCount, arguments_so_far, IllNumbered, rank as text_rank}
use Rattle.reading.specs.declared.fault.SheetFault.{SheetFault}
use Rattle.reading.specs.declared.fault.SheetFault.TheVariants.{Text, Repeated, Headless, Doubled, Unbound}
use Rattle.sheet_reading.specs.Sheet.{Sheet, SheetShaped, limits, SheetWithin, sheet_text}
use Rattle.sheet_reading.specs.Sides.{Hand, on_left, on_right}
use Rattle.sheet_reading.specs.Reading.{is_mark, read_sheet}

-- the text of some sheet, its size aside, begins with these tokens
abbrev pub Begins : List Tok → Type 0
Begins ks = (s : Sheet) × SheetShaped s × ((rest : List Tok) × (tokens (sheet_text s) ≡ ks ++ rest))

-- some sheet, its size aside, has just these tokens
abbrev pub WholeSheet : List Tok → Type 0
WholeSheet ks = (s : Sheet) × SheetShaped s × (tokens (sheet_text s) ≡ ks)

-- no sheet goes on, or ends, with it behind these tokens
abbrev pub StuckAt : List Tok → Wrong → Type 0
StuckAt before None = WholeSheet before → ⊥
StuckAt before (Some k) = Begins (before ++ k ∷ []) → ⊥

-- counts of tokens

abbrev pub count : (Tok → ℕ) → List Tok → ℕ
count f [] = 0
count f (k ∷ ks) = f k + count f ks

-- 1 for what is a symbol of a term: a name, an instrument or a variable
abbrev pub symbol : Tok → ℕ
symbol (a_name s) = 1
symbol (a_number s) = 0
symbol (an_instrument s) = 1
symbol (a_variable x) = 1
symbol (a_mark m) = 0
symbol (a_stray b) = 0

-- 1 for the mark
abbrev pub mark : Mark → Tok → ℕ
mark m k = cond (is_mark m k) 1 0

-- 1 for the variable
abbrev pub the_variable : ℕ → Tok → ℕ
the_variable x (a_name s) = 0
the_variable x (a_number s) = 0
the_variable x (an_instrument s) = 0
the_variable x (a_variable y) = cond (x == y) 1 0
the_variable x (a_mark m) = 0
the_variable x (a_stray b) = 0

-- a place, by the tokens before it: their bytes, and the line ends among them
abbrev pub Behind : List Tok → At → Type 0
Behind before at = at ≡ record { place = length (whole before); line = count lines before }

-- 1 for what ends a side: '=' or the end of the line
abbrev pub side_end : Tok → ℕ
side_end k = mark Equals k + mark LineEnd k

-- the tokens between a sheet and a side that begins behind it: the left side and '=', where the right one is read
abbrev pub hand_tokens : Sig → Hand → List Tok
hand_tokens sig on_left = []
hand_tokens sig (on_right l) = tokens (text_of sig l) ++ (a_mark Equals ∷ [])

abbrev pub HandTerm : Sig → Hand → Type 0
HandTerm sig on_left = Unit {0}
HandTerm sig (on_right l) = TermOf sig l

-- what stands before a side of a rule behind a whole sheet
abbrev pub front_of_side : Sheet → Hand → List Tok
front_of_side s d = tokens (sheet_text s) ++ hand_tokens s.operators d

-- behind a whole sheet a side of a further rule has begun, and has not ended
pub record InSide (before : List Tok) : Type 0 where
  pub sheet : Sheet
  pub shaped : SheetShaped sheet
  pub hand : Hand
  pub left : HandTerm sheet.operators hand
  pub side : List Tok
  pub unended : count side_end side ≡ 0
  pub stands : before ≡ front_of_side sheet hand ++ side

-- names, each with a blank behind it
abbrev pub names_on : Sig → List Tok
names_on [] = []
names_on (o ∷ os) = a_name o.name ∷ (a_mark Blank ∷ names_on os)

-- the next symbol behind these tokens is past a limit: the 33rd name, the first symbol of the 33rd rule, the 33rd symbol of a side, a symbol on level 17
pub data BeyondLimit (before : List Tok) : Type 0 where
  many_names : (sig : Sig) → Declared sig → length sig ≡ 32 → before ≡ names_on sig → BeyondLimit before
  many_rules : (s : Sheet) → SheetShaped s → length s.rules ≡ 32 → before ≡ tokens (sheet_text s) → BeyondLimit before
  many_symbols : (z : InSide before) → count symbol z.side ≡ 32 → BeyondLimit before
  many_levels : (z : InSide before) → count (mark Opening) z.side ≡ count (mark Closing) z.side + 16 → BeyondLimit before

-- no symbol among these tokens is past a limit
abbrev pub NoneBeyond : List Tok → Type 0
NoneBeyond ks = (before : List Tok) (k : Tok) (behind : List Tok) → ks ≡ before ++ (k ∷ behind) → symbol k ≡ 1 → BeyondLimit before → ⊥

-- an operator stands in a side, with the arguments so far, and the wrong token behind them shows a wrong count; the place is the operator's
pub record Miscounted (sig : Sig) (front side : List Tok) (w : Wrong) (at : At) : Type 0 where
  pub earlier : List Tok
  pub operator : ℕ
  pub so_far : Terms
  pub declared : operator < length sig
  pub terms : TermsOf sig so_far
  pub stands : side ≡ earlier ++ (a_name (op_of sig operator).name ∷ arguments_so_far sig so_far)
  pub shows : ShowsCount (op_of sig operator).arity so_far w
  pub its_place : Behind (front ++ earlier) at

-- two tokens of one kind behind these tokens: numbers; names in the first line; symbols in a side; and any token, as a mark or the word 'rules', with itself
pub data OneKind (before : List Tok) (k j : Tok) : Type 0 where
  same : k ≡ j → OneKind before k j
  numbers : (s t : List ℕ) → k ≡ a_number s → j ≡ a_number t → OneKind before k j
  names : (s t : List ℕ) → k ≡ a_name s → j ≡ a_name t → count (mark LineEnd) before ≡ 0 → OneKind before k j
  symbols : InSide before → symbol k ≡ 1 → symbol j ≡ 1 → OneKind before k j

-- the end too early, or a token of a kind that is not allowed here
abbrev pub NotAllowed : List Tok → Wrong → Type 0
NotAllowed before None = Unit {0}
NotAllowed before (Some k) = (j : Tok) → OneKind before k j → Begins (before ++ j ∷ []) → ⊥

-- a number may stand here, but not this one
abbrev pub OutOfRange : List Tok → Wrong → Type 0
OutOfRange before w = (s t : List ℕ) × (w ≡ Some (a_number s)) × Begins (before ++ a_number t ∷ []) × (Begins (before ++ a_number s ∷ []) → ⊥)

-- a name that is not declared, in a side, where a term may begin
pub record NotDeclared (before : List Tok) (w : Wrong) : Type 0 where
  pub place : InSide before
  pub begins_a_term : (j : Tok) × (symbol j ≡ 1) × Begins (before ++ j ∷ [])
  pub name : List ℕ
  pub is_name : w ≡ Some (a_name name)
  pub not_found : found place.sheet.operators name ≡ None

-- a name that stands among those before it
pub record Twice (before : List Tok) (w : Wrong) : Type 0 where
  pub names : Sig
  pub stands : before ≡ names_on names
  pub name : List ℕ
  pub is_name : w ≡ Some (a_name name)
  pub is_found : (f : ℕ) × (found names name ≡ Some f)

-- the first symbol of a left side, which is no declared operator
pub record NoOperator (before : List Tok) (w : Wrong) : Type 0 where
  pub sheet : Sheet
  pub shaped : SheetShaped sheet
  pub stands : before ≡ tokens (sheet_text sheet)
  pub token : Tok
  pub is_token : w ≡ Some token
  pub is_symbol : symbol token ≡ 1
  pub not_declared : (s : List ℕ) → token ≡ a_name s → found sheet.operators s ≡ None

-- the variable stands in a left side
pub record InLeft (x : ℕ) (before : List Tok) : Type 0 where
  pub place : InSide before
  pub on_the_left : place.hand ≡ on_left
  pub among : 1 ≤ count (the_variable x) place.side

-- a right side has begun, and the variable does not stand in the left one
pub record NotInLeft (x : ℕ) (before : List Tok) : Type 0 where
  pub place : InSide before
  pub left : Term
  pub on_the_right : place.hand ≡ on_right left
  pub not_among : occurrences x left ≡ 0

-- when a fault applies to what is wrong behind these tokens
abbrev pub TextApplies : List Tok → Wrong → TextFault → Type 0
TextApplies before w (Stray at) = Behind before at × ((b : ℕ) × (w ≡ Some (a_stray b)))
TextApplies before w (BadNumber at) = Behind before at × (IllNumbered w ⊎ OutOfRange before w)
TextApplies before w (Unexpected at) = Behind before at × NotAllowed before w
TextApplies before w (Undeclared at) = Behind before at × NotDeclared before w
TextApplies before w (WrongArity at) = (z : InSide before) × Miscounted z.sheet.operators (front_of_side z.sheet z.hand) z.side w at
TextApplies before w (PastLimit at) = Behind before at × BeyondLimit before × ((k : Tok) × (w ≡ Some k) × (symbol k ≡ 1))

abbrev pub Applies : List Tok → Wrong → SheetFault → Type 0
Applies before w (Text f) = TextApplies before w f
Applies before w (Repeated at) = Behind before at × Twice before w
Applies before w (Headless at) = Behind before at × NoOperator before w
Applies before w (Doubled at) = Behind before at × ((x : ℕ) × (w ≡ Some (a_variable x)) × InLeft x before)
Applies before w (Unbound at) = Behind before at × ((x : ℕ) × (w ≡ Some (a_variable x)) × NotInLeft x before)

-- the order in which faults go: those of the text first, a limit as the last of them
abbrev pub rank : SheetFault → ℕ
rank (Text f) = text_rank f
rank (Repeated at) = 7
rank (Headless at) = 8
rank (Doubled at) = 9
rank (Unbound at) = 10

-- the first wrong token decides, or the first one past a limit: what stands before it begins a sheet's text and has no symbol past a limit; no sheet goes on with it, unless it is refused for a limit; and of the faults that apply to it the one that goes first is given
pub record FirstWrong (b : List ℕ) (f : SheetFault) : Type 0 where
  pub before : ℕ
  pub begins : Begins (take before (tokens b))
  pub none_before : NoneBeyond (take before (tokens b))
  pub stuck : rank f ≢ 6 → StuckAt (take before (tokens b)) (first_of (drop before (tokens b)))
  pub applies : Applies (take before (tokens b)) (first_of (drop before (tokens b))) f
  pub goes_first : (g : SheetFault) → Applies (take before (tokens b)) (first_of (drop before (tokens b))) g → rank f ≤ rank g

-- an accepted text is the text of the sheet that is read, which is within the limits; a refused one is too long, or has a first wrong token
abbrev pub Explained : List ℕ → Result Sheet SheetFault → Type 0
Explained b (Ok s) = SheetShaped s × SheetWithin limits s × (sheet_text s ≡ b) × (length b ≤ sheet_limit)
Explained b (Err f) = ((sheet_limit < length b) × (f ≡ Text (PastLimit origin))) ⊎ ((length b ≤ sheet_limit) × FirstWrong b f)

pub record SheetLaw (b : List ℕ) : Type 0 where
  pub explained : Explained b (read_sheet b)
  -- and every text of a sheet within the limits is accepted, but for its length
  pub accepted : (s : Sheet) → SheetShaped s → SheetWithin limits s → sheet_text s ≡ b → length b ≤ sheet_limit → read_sheet b ≡ Ok s
