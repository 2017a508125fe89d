-- A book that follows the machine, call by call, and so over every list of calls.
use Rattle.std.specs.Prelude.{◌≡◌, ℕ, List, [], ◌∷◌, ◌++◌}
use Rattle.terms.specs.Signature.{Declared}
use Rattle.rewriting.specs.Convergent.{Convergent}
use Rattle.machine.specs.Machine.{System, Machine, opened}
use Rattle.machine.specs.Calls.{Call, Answer, call, after, answers_to, buffers_of}
use Rattle.machine.specs.Whole.{Whole}

-- from this machine on: the book stands for the machine after the call; the answer, and what the buffer then holds, are the machine's
pub record Followed {B : Type 0} (Stands : B → Machine → Type 0) (s : System) (book : B) (c : Call) (answer : Answer) (buffer : List ℕ) (m : Machine) : Type 0 where
  pub stands : Stands book (call s m c).machine
  pub answers : answer ≡ (call s m c).answer
  pub writes : buffer ≡ (call s m c).buffer

-- and so from whatever machine the book stood for before the call
abbrev pub Follows : {B : Type 0} → (B → Machine → Type 0) → System → B → B → Call → Answer → List ℕ → Type 0
Follows Stands s before now c answer buffer = (m : Machine) → Stands before m → Followed Stands s now c answer buffer m

-- a list of calls on a book, each of which followed, with the answers and what the buffers then held
pub data Session {B : Type 0} (Stands : B → Machine → Type 0) (s : System) : B → List Call → List Answer → List (List ℕ) → B → Type 0 where
  no_calls : {b : B} → Session Stands s b [] [] [] b
  one_more : {a b d : B} {c : Call} {x : Answer} {l : List ℕ} {cs : List Call} {xs : List Answer} {ls : List (List ℕ)}
      → Follows Stands s a b c x l → Session Stands s b cs xs ls d → Session Stands s a (c ∷ cs) (x ∷ xs) (l ∷ ls) d

-- what a book keeps that was opened on so many nodes and entries, after those calls
pub record Kept {B : Type 0} (Stands : B → Machine → Type 0) (s : System) (nodes entries : ℕ) (cs : List Call) (xs : List Answer) (ls : List (List ℕ)) (book : B) : Type 0 where
  pub stands : Stands book (after s (opened nodes entries) cs)
  pub answers : xs ≡ answers_to s (opened nodes entries) cs
  pub writes : ls ≡ buffers_of s (opened nodes entries) cs
  pub whole : Whole s (after s (opened nodes entries) cs)
  pub pool : (after s (opened nodes entries) cs).nodes ≡ nodes

-- the same of one call, in a form for its contract: after any list of calls since the book was opened, and then this one
abbrev pub Keeps : {B : Type 0} → (B → Machine → Type 0) → System → B → B → Call → Answer → List ℕ → Type 0
Keeps Stands s before now c answer buffer =
    Declared s.operators → ∥ Convergent s.operators s.rules ∥₁ → (nodes entries : ℕ) (cs : List Call) → Stands before (after s (opened nodes entries) cs)
    → Followed Stands s now c answer buffer (after s (opened nodes entries) cs) × Stands now (after s (opened nodes entries) (cs ++ c ∷ [])) × Whole s (after s (opened nodes entries) (cs ++ c ∷ []))
