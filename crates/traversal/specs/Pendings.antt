-- The texts of terms that are still to be written.
use Rattle.std.specs.Prelude.{◌≡◌, ℕ, suc, ◌+◌, ◌*◌, ◌%◌, ◌<◌, ◌≤◌, List, [], ◌∷◌, ◌++◌, length, replicate, Some, None, decimal, Option, Ok, Err, Result}
use Rattle.fixed_vec.specs.declared.Full.{Full}
use Rattle.terms.specs.declared.symbol.Symbol.{Symbol}
use Rattle.terms.specs.declared.symbol.Symbol.TheVariants.{Variable, Instrument, Operator}
use Rattle.terms.specs.Term.{Term, Terms, nil, cons, symbols, symbols_in}
use Rattle.terms.specs.Signature.{Sig, op_of}
use Rattle.terms.specs.Text.{text_of}
use Rattle.terms.specs.View.{Answers, Stands}
use Rattle.traversal.specs.declared.pending.Lead.{Lead}
use Rattle.traversal.specs.declared.pending.Lead.TheVariants.{Opening, Comma}
use Rattle.traversal.specs.declared.pending.Pending.{Pending}
use Rattle.traversal.specs.Walks.{most_symbols}
use Rattle.traversal.specs.Rows.{padded, StandAll}
use Rattle.traversal.specs.declared.write.writer.Writer.{Writer}
use Rattle.traversal.specs.Bytes.{Puts}

abbrev pub lead_byte : Lead → ℕ
lead_byte Opening = 40
lead_byte Comma = 44

-- what is written before a term
abbrev pub lead_text : Option Lead → List ℕ
lead_text None = []
lead_text (Some l) = lead_byte l ∷ []

-- the text of a symbol without its arguments
abbrev pub symbol_text : Sig → Option Symbol → List ℕ
symbol_text sig None = []
symbol_text sig (Some (Variable x)) = (65 + x % 16) ∷ []
symbol_text sig (Some (Instrument n)) = 35 ∷ decimal n
symbol_text sig (Some (Operator f)) = (op_of sig f).name

abbrev pub places : List Pending → List ℕ
places [] = []
places (e ∷ es) = e.place ∷ places es

-- what is written of the pending terms
abbrev pub pending_text : Sig → List Pending → Terms → List ℕ
pending_text sig [] ts = []
pending_text sig (e ∷ es) nil = []
pending_text sig (e ∷ es) (cons t ts) = lead_text e.lead ++ (text_of sig t ++ (replicate e.closings 41 ++ pending_text sig es ts))

-- how much is written of the pending terms beside their own texts
abbrev pub weight : List Pending → ℕ
weight [] = 0
weight (e ∷ es) = length (lead_text e.lead) + e.closings + weight es

-- the arguments of a symbol behind the first, with so many closing parentheses after the last
abbrev pub others : ℕ → List ℕ → List Pending
others c [] = []
others c (p ∷ []) = record { place = p; lead = Some Comma; closings = c } ∷ []
others c (p ∷ q ∷ ps) = record { place = p; lead = Some Comma; closings = 0 } ∷ others c (q ∷ ps)

-- the arguments of a symbol, with so many closing parentheses after the last
abbrev pub children : ℕ → List ℕ → List Pending
children c [] = []
children c (p ∷ []) = record { place = p; lead = Some Opening; closings = c } ∷ []
children c (p ∷ q ∷ ps) = record { place = p; lead = Some Opening; closings = 0 } ∷ others c (q ∷ ps)

-- the row that stands in the slots is put onto the stack; or there is no room for it
abbrev pub Spread : ℕ → List (Option ℕ) → List Pending → List Pending → Result (Unit {0}) Full → Type 0
Spread c slots before after (Ok u) = (row : List ℕ) → slots ≡ padded row → length row ≤ 3 → after ≡ children c row ++ before
Spread c slots before after (Err e) = (row : List ℕ) → slots ≡ padded row → length row ≤ 3 → most_symbols < length row + length before

-- writing these bytes takes one symbol from the pending terms
abbrev pub Taken : Sig → Answers → List ℕ → List Pending → List Pending → Type 0
Taken sig v bytes before after = (ts : Terms) → StandAll v (places before) ts → (us : Terms) × StandAll v (places after) us × (symbols_in ts ≡ suc (symbols_in us)) × (pending_text sig before ts ≡ bytes ++ pending_text sig after us)

-- one symbol is written
pub record Stepped (sig : Sig) (v : Answers) (before after : List Pending) (old new : Writer) : Type 0 where
  pub bytes : List ℕ
  pub puts : Puts bytes old new
  pub taken : Taken sig v bytes before after
  pub little : new.len + weight after ≤ old.len + weight before + 16

-- pending terms that the stack has room for, and not too much to write: 16 bytes for each of the most symbols are less than this
pub record Layable (v : Answers) (es : List Pending) (at : ℕ) : Type 0 where
  pub terms : Terms
  pub stand : StandAll v (places es) terms
  pub few : symbols_in terms ≤ most_symbols
  pub low : at + weight es ≤ 300000

-- a term of so many symbols stands at the place
abbrev pub OfSize : Answers → ℕ → ℕ → Term → Type 0
OfSize v p n t = Stands v p t × (symbols t ≡ n)

-- there is one, of at most the most symbols
pub record SomeOfSize (v : Answers) (p n : ℕ) : Type 0 where
  pub term : Term
  pub is : OfSize v p n term
  pub few : n ≤ most_symbols

-- k symbols of the term of n symbols are written, with 16 bytes for each at most
pub record Laying (sig : Sig) (v : Answers) (p n k : ℕ) (stack : List Pending) (old new : Writer) : Type 0 where
  pub bytes : List ℕ
  pub puts : Puts bytes old new
  pub rest : (t : Term) → OfSize v p n t → (us : Terms) × StandAll v (places stack) us × (k + symbols_in us ≡ n) × (text_of sig t ≡ bytes ++ pending_text sig stack us)
  pub little : new.len + weight stack ≤ 16 * k
