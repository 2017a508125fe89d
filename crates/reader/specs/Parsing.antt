-- What the parser holds in each state of reading.
use Rattle.std.specs.Prelude.{◌≡◌, ℕ, suc, ◌+◌, ◌*◌, ◌<◌, ◌≤◌, List, [], ◌∷◌, ◌++◌, length, Some, None, Result}
use Rattle.terms.specs.declared.node.Node.{Node}
use Rattle.terms.specs.declared.symbol.Symbol.{Symbol}
use Rattle.terms.specs.declared.symbol.Symbol.TheVariants.{Variable, Instrument, Operator}
use Rattle.terms.specs.Term.{Term, variable, instrument, apply, Terms, nil, cons, symbols}
use Rattle.terms.specs.Nodes.{laid}
use Rattle.terms.specs.Layout.{in_use}
use Rattle.reading.specs.declared.token.At.{At}
use Rattle.reading.specs.declared.fault.TextFault.{TextFault}
use Rattle.reader.specs.Machine.{Stepped}
use Rattle.reader.specs.declared.parser.Frame.{Frame}
use Rattle.reader.specs.declared.parser.Phase.{Phase}
use Rattle.reader.specs.declared.parser.Phase.TheVariants.{Wants, Opens, Has}
use Rattle.reader.specs.declared.parser.Parser.{Parser}
use Rattle.fixed_vec.specs.FixedVec.{content}
use Rattle.reading.specs.Reading.{Context, top, within, State, wants, opens, has}

-- an operator whose arguments begin at the next place
abbrev pub operator_node : ℕ → ℕ → Node
operator_node f i = record { symbol = Some (Operator f); first = Some (suc i); next = None }

-- arguments from the place i on, each linked to the place behind it
abbrev pub linked : ℕ → Terms → List Node
linked i nil = []
linked i (cons t ts) = laid i (Some (i + symbols t)) t ++ linked (i + symbols t) ts

-- the nodes of the operators whose arguments are being read, and of the arguments read
abbrev pub stack_nodes : Context → List Node
stack_nodes top = []
stack_nodes (within f a ts n k) = stack_nodes k ++ (operator_node f (length (stack_nodes k)) ∷ linked (suc (length (stack_nodes k))) ts)

abbrev pub stack_frames : Context → List Frame
stack_frames top = []
stack_frames (within f a ts n k) = record { node = length (stack_nodes k); at = a; left = n } ∷ stack_frames k

abbrev pub state_nodes : State → List Node
state_nodes (wants k) = stack_nodes k
state_nodes (opens f a n k) = stack_nodes k ++ operator_node f (length (stack_nodes k)) ∷ []
state_nodes (has t m k) = stack_nodes k ++ laid (length (stack_nodes k)) None t

abbrev pub state_frames : State → List Frame
state_frames (wants k) = stack_frames k
state_frames (opens f a n k) = stack_frames k
state_frames (has t m k) = stack_frames k

abbrev pub state_phase : State → Phase
state_phase (wants k) = Wants
state_phase (opens f a n k) = Opens (record { node = length (stack_nodes k); at = a; left = n })
state_phase (has t m k) = Has (record { root = length (stack_nodes k); bare = m })

-- the parser holds what the state says
pub record Holds (p : Parser) (s : State) : Type 0 where
  pub nodes_are : in_use p.nodes ≡ state_nodes s
  pub frames_are : content p.frames ≡ state_frames s
  pub phase_is : p.phase ≡ state_phase s

-- twice the nodes, less one where a term has begun, are no more than the bytes read
abbrev pub Sparse : State → ℕ → Type 0
Sparse (wants k) place = 2 * length (stack_nodes k) ≤ place
Sparse (opens f a n k) place = 2 * length (state_nodes (opens f a n k)) ≤ place + 1
Sparse (has t m k) place = 2 * length (state_nodes (has t m k)) ≤ place + 1

-- a state that a token of a ticket can meet at this place
abbrev pub Roomy : State → ℕ → Type 0
Roomy s place = Sparse s place × (place < 4096)

-- the symbol of a term without arguments
abbrev pub Leaf : Symbol → Term → Type 0
Leaf y (variable x) = y ≡ Variable x
Leaf y (instrument n) = y ≡ Instrument n
Leaf y (apply f ts) = (y ≡ Operator f) × (ts ≡ nil)

-- a token at a place takes the parser, if it holds the state, to what follows
abbrev pub Takes : Parser → State → At → Result (Unit {0}) TextFault → Result State TextFault → Parser → Type 0
Takes p s at r next q = Holds p s → Roomy s at.place → Stepped r next (Holds q)

-- and that from each state
abbrev pub Moves : Parser → At → Result (Unit {0}) TextFault → (State → Result State TextFault) → Parser → Type 0
Moves p at r next q = (s : State) → Takes p s at r (next s) q
