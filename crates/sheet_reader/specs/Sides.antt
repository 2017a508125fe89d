-- What the reader of a side holds, and what it reads.
use Rattle.std.specs.Prelude.{◌≡◌, ℕ, zero, suc, ◌+◌, ◌<◌, ◌≤◌, ◌⊎◌, List, [], ◌∷◌, ◌++◌, length, false, Bool, Some, None, Ok, Err, Option, Result, nat_lt, slice_index_or}
use Rattle.terms.specs.Term.{Term, apply, Terms, nil, cons, symbols, symbols_in}
use Rattle.terms.specs.Rule.{Rule}
use Rattle.terms.specs.Signature.{Sig}
use Rattle.terms.specs.Substitution.{occurrences, occurrences_in}
use Rattle.terms.specs.declared.symbol.Symbol.TheVariants.{Operator}
use Rattle.terms.specs.declared.node.Node.{Node}
use Rattle.terms.specs.Nodes.{laid, laid_row}
use Rattle.terms.specs.Layout.{in_use}
use Rattle.signature.specs.Declaring.{sig_of}
use Rattle.lexer.specs.declared.token.Lexer.{Lexer}
use Rattle.reading.specs.declared.token.At.{At}
use Rattle.reading.specs.declared.fault.TextFault.{TextFault}
use Rattle.reading.specs.declared.fault.TextFault.TheVariants.{PastLimit}
use Rattle.reading.specs.declared.fault.SheetFault.{SheetFault}
use Rattle.reading.specs.Tokens.{Tok}
use Rattle.reading.specs.Reading.{Context, within, State, wants, has, named}
use Rattle.sheet_reading.specs.Values.{Grid}
use Rattle.sheet_reading.specs.Sheet.{limits}
use Rattle.sheet_reading.specs.Sides.{Hand as Side, on_left, on_right, symbols_before, depth, occurrences_before, side_wants}
use Rattle.sheet_reading.specs.Reading.{Stand, in_rule}
use Rattle.sheet_reader.specs.declared.side.Hand.{Hand}
use Rattle.sheet_reader.specs.declared.side.Hand.TheVariants.{Left, Right}
use Rattle.sheet_reader.specs.declared.side.Room.{Room}
use Rattle.sheet_reader.specs.declared.side.SideReader.{SideReader}
use Rattle.sheet_reader.specs.declared.side.Whole.{Whole}
use Rattle.sheet_reader.specs.Progress.{Reached}

-- where a term of a side is read: behind these lines of values and rules, on this side, within these operators
pub record Around : Type 0 where
  pub operators : Sig
  pub values : Grid
  pub rules : List Rule
  pub hand : Side
  pub context : Context

-- the stand there, in some state of the side
abbrev pub stand_in : Around → State → Stand
stand_in i s = in_rule i.operators i.values i.rules i.hand s

abbrev pub Handed : Hand → Side → Type 0
Handed Left on_left = Unit {0}
Handed Left (on_right l) = ⊥
Handed Right on_left = ⊥
Handed Right (on_right l) = Unit {0}

-- how often a variable stands on the left side, as far as that is read
abbrev pub on_the_left : Side → (ℕ → ℕ) → ℕ → ℕ
on_the_left on_left read x = read x
on_the_left (on_right l) read x = occurrences x l

-- the variables that stand on the left side, as far as that is read, are marked
abbrev pub Marked : List Bool → Side → (ℕ → ℕ) → Type 0
Marked marks d read = (x : ℕ) → x < 8 → slice_index_or marks x false ≡ nat_lt 0 (on_the_left d read x)

-- so much may still come: 32 symbols on 16 levels in all, and nothing in a rule past the 32nd
pub record Roomy (room : Room) (i : Around) : Type 0 where
  pub symbols_left : length i.rules < 32 → room.symbols + symbols_before i.context ≡ 32
  pub past_rules : 32 ≤ length i.rules → room.symbols ≡ 0
  pub levels_left : room.levels + depth i.context ≡ 16

-- the reader of a side where a term may begin
pub record Fits (r : SideReader) (room : Room) (i : Around) : Type 0 where
  pub operators : sig_of r.signature.now ≡ i.operators
  pub hand : Handed r.hand i.hand
  pub nodes : length (in_use r.nodes) ≡ symbols_before i.context
  pub marked : Marked r.variables i.hand (λ x. occurrences_before x i.context)
  pub roomy : Roomy room i

-- one symbol less, on one level less
abbrev pub Falls : Room → Room → Type 0
Falls room below = (suc below.symbols ≡ room.symbols) × (suc below.levels ≡ room.levels)

-- a symbol more may come; or there is none left, or no level
abbrev pub Below : Room → At → Result Room TextFault → Type 0
Below room at (Ok below) = Falls room below
Below room at (Err f) = (f ≡ PastLimit at) × ((room.symbols ≡ 0) ⊎ (room.levels ≡ 0))

-- a node is put behind the others, and nothing else changes; or there is no room for it
abbrev pub Lays : SideReader → Node → At → Result (Unit {0}) TextFault → SideReader → Type 0
Lays before n at (Ok done) r = (r ≡ record { signature = before.signature; hand = before.hand; variables = before.variables; nodes = r.nodes }) × (in_use r.nodes ≡ in_use before.nodes ++ n ∷ [])
Lays before n at (Err f) r = (f ≡ PastLimit at) × (32 ≤ length (in_use before.nodes))

-- the reader behind a term or a row of terms, by how many symbols these have, and how often each variable
pub record Keeps (before r : SideReader) (room : Room) (spare : ℕ) (i : Around) (more : ℕ) (often : ℕ → ℕ) : Type 0 where
  pub signature : r.signature ≡ before.signature
  pub hand : r.hand ≡ before.hand
  pub marked : Marked r.variables i.hand (λ x. often x + occurrences_before x i.context)
  pub spare_left : spare + more ≡ room.symbols

-- a term was read: its nodes are laid out behind the others, and the lexer is behind it
pub record ReadsTerm (b : List ℕ) (before : SideReader) (room : Room) (i : Around) (whole : Whole) (r : SideReader) (l : Lexer) : Type 0 where
  pub term : Term
  pub goes_on : Reached b (stand_in i (has term whole.bare i.context)) l
  pub nodes : in_use r.nodes ≡ in_use before.nodes ++ laid (length (in_use before.nodes)) None term
  pub keeps : Keeps before r room whole.spare i (symbols term) (λ x. occurrences x term)

-- how the definition goes on where a term may begin
abbrev pub begun_with : Around → Tok → At → Result State SheetFault
begun_with i tok at = side_wants limits i.operators (length i.rules) i.hand tok at i.context

-- a term of one symbol was read, as the definition has it
pub record HasLeaf (before : SideReader) (room : Room) (i : Around) (whole : Whole) (r : SideReader) (o : Result State SheetFault) : Type 0 where
  pub term : Term
  pub as_defined : o ≡ Ok (has term whole.bare i.context)
  pub nodes : in_use r.nodes ≡ in_use before.nodes ++ laid (length (in_use before.nodes)) None term
  pub keeps : Keeps before r room whole.spare i (symbols term) (λ x. occurrences x term)

-- or the definition refuses it
abbrev pub ReadsLeaf : SideReader → Room → Around → Result Whole SheetFault → SideReader → Result State SheetFault → Type 0
ReadsLeaf before room i (Ok whole) r o = HasLeaf before room i whole r o
ReadsLeaf before room i (Err f) r o = o ≡ Err f

-- where the arguments of an operator begin whose node is at a place, if it has any
abbrev pub arguments_from : ℕ → ℕ → Option ℕ
arguments_from place zero = None
arguments_from place (suc n) = Some (suc place)

-- an operator of so many arguments was read, as the definition has it, without these
pub record HasHead (before : SideReader) (room : Room) (i : Around) (at : At) (below : Room) (arity : ℕ) (r : SideReader) (o : Result State SheetFault) : Type 0 where
  pub operator : ℕ
  pub as_defined : o ≡ Ok (named operator arity at i.context)
  pub falls : Falls room below
  pub others : r ≡ record { signature = before.signature; hand = before.hand; variables = before.variables; nodes = r.nodes }
  pub nodes : in_use r.nodes ≡ in_use before.nodes ++ record { symbol = Some (Operator operator); first = arguments_from (length (in_use before.nodes)) arity; next = None } ∷ []

-- or the definition refuses it
abbrev pub ReadsHead : SideReader → Room → Around → At → Result (Room × ℕ) SheetFault → SideReader → Result State SheetFault → Type 0
ReadsHead before room i at (Ok h) r o = HasHead before room i at h.0 h.1 r o
ReadsHead before room i at (Err f) r o = o ≡ Err f

-- the same place, within the operator f at a place, behind its arguments ts and before another and n more
abbrev pub inside : Around → ℕ → At → Terms → ℕ → Around
inside i f at ts n = record { operators = i.operators; values = i.values; rules = i.rules; hand = i.hand; context = within f at ts n i.context }

-- behind an argument: the next one comes, with so many more; or that was the last one
abbrev pub in_row : ℕ → At → Terms → Option ℕ → Context → State
in_row f at ts None k = has (apply f ts) None k
in_row f at ts (Some n) k = wants (within f at ts n k)

-- a row behind another
abbrev pub joined : Terms → Terms → Terms
joined nil us = us
joined (cons t ts) us = cons t (joined ts us)

-- the arguments that were still to come were read, and the parenthesis behind them
pub record ReadsRow (b : List ℕ) (before : SideReader) (room : Room) (i : Around) (f : ℕ) (at : At) (ts : Terms) (n spare : ℕ) (r : SideReader) (l : Lexer) : Type 0 where
  pub first : Term
  pub others : Terms
  pub goes_on : Reached b (stand_in i (has (apply f (joined ts (cons first others))) None i.context)) l
  pub nodes : in_use r.nodes ≡ in_use before.nodes ++ laid_row (length (in_use before.nodes)) (cons first others)
  pub keeps : Keeps before r room spare (inside i f at ts n) (symbols_in (cons first others)) (λ x. occurrences_in x (cons first others))
