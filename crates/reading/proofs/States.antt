-- The tokens that a state has read, and which states are reached.
use Rattle.std.proofs.Common.{◌≡◌, ℕ, suc, ◌+◌, ◌<◌, List, [], ◌∷◌, ◌++◌, length, Some, None, Option, sym, refl, ap, ◌∙◌, append_assoc, append-nil, arith}
use Rattle.terms.specs.Term.{Term, apply, Terms, nil, cons, how_many}
use Rattle.terms.specs.Signature.{Sig, op_of}
use Rattle.terms.specs.Ticket.{Ticket, Tickets}
use Rattle.terms.specs.Text.{text_of}
use Rattle.reading.specs.declared.token.At.{At}
use Rattle.reading.specs.declared.token.Mark.TheVariants.{Opening, Closing, Comma}
use Rattle.reading.specs.Tokens.{Tok, a_name, a_mark, tokens}
use Rattle.reading.specs.Reading.{Context, top, within, State, wants, opens, has, and_then}
use Rattle.reading.specs.Laws.{Behind, further_arguments, arguments_so_far}
use Rattle.reading.proofs.Lexing.{closing}

-- the tokens read so far

abbrev pub name_of : Sig → ℕ → Tok
name_of sig f = a_name (op_of sig f).name

-- of an operator's arguments, before the next one
abbrev pub awaiting : Sig → Terms → List Tok
awaiting sig nil = a_mark Opening ∷ []
awaiting sig (cons t ts) = arguments_so_far sig (cons t ts) ++ (a_mark Comma ∷ [])

abbrev pub stack_tokens : Sig → Context → List Tok
stack_tokens sig top = []
stack_tokens sig (within f a ts n k) = stack_tokens sig k ++ (name_of sig f ∷ awaiting sig ts)

abbrev pub state_tokens : Sig → State → List Tok
state_tokens sig (wants k) = stack_tokens sig k
state_tokens sig (opens f a n k) = stack_tokens sig k ++ (name_of sig f ∷ [])
state_tokens sig (has t m k) = stack_tokens sig k ++ tokens (text_of sig t)

-- a row with one more term

further_then : (sig : Sig) (ts : Terms) (t : Term) → further_arguments sig (and_then ts t) ≡ further_arguments sig ts ++ (a_mark Comma ∷ tokens (text_of sig t))
further_then sig nil t = ap (λ l. a_mark Comma ∷ l) (append-nil (tokens (text_of sig t)))
further_then sig (cons u ts) t = ap (λ l. a_mark Comma ∷ (tokens (text_of sig u) ++ l)) (further_then sig ts t) ∙ ap (λ l. a_mark Comma ∷ l) (sym (append_assoc (tokens (text_of sig u)) (further_arguments sig ts) _))

pub arguments_then : (sig : Sig) (ts : Terms) (t : Term) → arguments_so_far sig (and_then ts t) ≡ awaiting sig ts ++ tokens (text_of sig t)
arguments_then sig nil t = ap (λ l. a_mark Opening ∷ l) (append-nil (tokens (text_of sig t)))
arguments_then sig (cons u ts) t = ap (λ l. a_mark Opening ∷ (tokens (text_of sig u) ++ l)) (further_then sig ts t) ∙ simp append_assoc

pub awaiting_then : (sig : Sig) (ts : Terms) (t : Term) → awaiting sig (and_then ts t) ≡ arguments_so_far sig (and_then ts t) ++ (a_mark Comma ∷ [])
awaiting_then sig nil t = refl
awaiting_then sig (cons u ts) t = refl

pub closing_then : (ts : Terms) (t : Term) → closing (and_then ts t) ≡ a_mark Closing ∷ []
closing_then nil t = refl
closing_then (cons u ts) t = refl

pub many_then : (ts : Terms) (t : Term) → how_many (and_then ts t) ≡ suc (how_many ts)
many_then nil t = refl
many_then (cons u ts) t = ap suc (many_then ts t)

pub tickets_then : (sig : Sig) (ts : Terms) (t : Term) → Tickets sig ts → Ticket sig t → Tickets sig (and_then ts t)
tickets_then sig nil t a b = (b, tt)
tickets_then sig (cons u ts) t a b = (a.0, tickets_then sig ts t a.1 b)

-- a state that is reached

-- an operator at its place: the arguments read, and how many follow the next one
pub record FrameOf (Rows : Terms → Type 0) (Place : At → Type 0) (sig : Sig) (f : ℕ) (a : At) (ts : Terms) (n : ℕ) : Type 0 where
  pub declared : f < length sig
  pub counted : how_many ts + suc n ≡ (op_of sig f).arity
  pub terms : Rows ts
  pub placed : Place a

pub frame_next : {Rows : Terms → Type 0} {Place : At → Type 0} {sig : Sig} {f : ℕ} {a : At} {ts : Terms} {n : ℕ} (t : Term) → FrameOf Rows Place sig f a ts (suc n) → Rows (and_then ts t) → FrameOf Rows Place sig f a (and_then ts t) n
frame_next {Rows} {Place} {sig} {f} {a} {ts} {n} t g h = record { declared = g.declared; counted = omega (arith, many_then ts t, g.counted); terms = h; placed = g.placed }

pub frame_full : {Rows : Terms → Type 0} {Place : At → Type 0} {sig : Sig} {f : ℕ} {a : At} {ts : Terms} (t : Term) → FrameOf Rows Place sig f a ts 0 → Rows (and_then ts t) → (f < length sig) × (how_many (and_then ts t) ≡ (op_of sig f).arity) × Rows (and_then ts t)
frame_full {Rows} {Place} {sig} {f} {a} {ts} t g h = (g.declared, omega (arith, many_then ts t, g.counted), h)

-- the place of an operator without arguments
abbrev pub PlacedOf : (At → Type 0) → Term → Option At → Type 0
PlacedOf Place t None = Unit {0}
PlacedOf Place t (Some a) = (f : ℕ) × (t ≡ apply f nil) × Place a

-- terms and rows of them are such ones, and places are behind the tokens before them
module _ (One : Term → Type 0) (Rows : Terms → Type 0) (Place : List Tok → At → Type 0) (sig : Sig) (before : List Tok) where
  abbrev pub ContextOf : Context → Type 0
  ContextOf top = Unit {0}
  ContextOf (within f a ts n k) = FrameOf Rows (Place (before ++ stack_tokens sig k)) sig f a ts n × ContextOf k

  abbrev pub StateOf : State → Type 0
  StateOf (wants k) = ContextOf k
  StateOf (opens f a n k) = FrameOf Rows (Place (before ++ stack_tokens sig k)) sig f a nil n × ContextOf k
  StateOf (has t m k) = One t × ContextOf k × PlacedOf (Place (before ++ stack_tokens sig k)) t m

-- of a ticket

abbrev pub Frame : Sig → ℕ → At → Terms → ℕ → List Tok → Type 0
Frame sig f a ts n ks = FrameOf (Tickets sig) (Behind ks) sig f a ts n

abbrev pub ContextGood : Sig → Context → Type 0
ContextGood sig = ContextOf (Ticket sig) (Tickets sig) Behind sig []

abbrev pub Good : Sig → State → Type 0
Good sig = StateOf (Ticket sig) (Tickets sig) Behind sig []
