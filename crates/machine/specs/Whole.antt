-- What holds after every list of calls.
use Rattle.std.specs.Prelude.{◌≡◌, ℕ, ◌+◌, ◌≤◌, ◌↔◌, Bool, true, List, ◌++◌, length, drop, Some, slice_get}
use Rattle.terms.specs.Term.{Term}
use Rattle.terms.specs.Ticket.{Ticket}
use Rattle.terms.specs.Text.{text_of}
use Rattle.rewriting.specs.Next.{run, EndsAfter}
use Rattle.rewriting.specs.Convergent.{Converts}
use Rattle.machine.specs.Machine.{System, held, Machine, symbols_held, free_nodes}
use Rattle.machine.specs.Calls.{show, shown, call}

-- an entry is held, with this ticket, so many steps since, finished or not
abbrev pub Holds : Machine → ℕ → Term → ℕ → Bool → Type 0
Holds m e t n f = slice_get m.entries e ≡ Some (held t n f)

-- a show of the entry, with a buffer long enough, answers the length of the text and writes it
pub record Shows (s : System) (m : Machine) (e : ℕ) (text : List ℕ) : Type 0 where
  pub answers : (buffer : List ℕ) → length text ≤ length buffer → (call s m (show e buffer)).answer ≡ shown (length text)
  pub writes : (buffer : List ℕ) → length text ≤ length buffer → (call s m (show e buffer)).buffer ≡ text ++ drop (length text) buffer

pub record Whole (s : System) (m : Machine) : Type 0 where
  -- two finished entries show equal text exactly when a conversion joins the tickets they were entered from
  pub decides : (d e : ℕ) (t u : Term) (n k : ℕ) (a b : List ℕ) → Holds m d t n true → Holds m e u k true → Shows s m d a → Shows s m e b → (a ≡ b) ↔ Converts s.operators s.rules t u
  -- and a held entry shows the text of its term
  pub shows : (e : ℕ) (t : Term) (n : ℕ) (f : Bool) → Holds m e t n f → Shows s m e (text_of s.operators (run s.rules n t))
  -- from every ticket the next steps end after a number that sheet and ticket alone fix
  pub ends : (t : Term) → Ticket s.operators t → (n : ℕ) × EndsAfter s.rules t n × ((k : ℕ) → EndsAfter s.rules t k → k ≡ n)
  -- a held entry was entered from a ticket; its steps are at most that number, and exactly that number once it is finished
  pub tickets : (e : ℕ) (t : Term) (n : ℕ) (f : Bool) → Holds m e t n f → Ticket s.operators t
  pub at_most : (e : ℕ) (t : Term) (n : ℕ) (f : Bool) → Holds m e t n f → (k : ℕ) → EndsAfter s.rules t k → n ≤ k
  pub exactly : (e : ℕ) (t : Term) (n : ℕ) → Holds m e t n true → EndsAfter s.rules t n
  -- the free nodes and the symbols of the terms of all held entries add up to the pool
  pub adds_up : free_nodes s m + symbols_held s m ≡ m.nodes
