-- The calls of the book, and what the reference machine answers, writes and then is.
use Rattle.std.specs.Prelude.{ℕ, ◌+◌, Bool, true, false, cond, ◌||◌, List, [], ◌∷◌, ◌++◌, length, drop, Some, None, Ok, Err, Option, Result, nat_le, slice_get, slice_set}
use Rattle.terms.specs.Term.{Term, symbols}
use Rattle.terms.specs.Text.{text_of}
use Rattle.rewriting.specs.Next.{run}
use Rattle.reading.specs.declared.fault.TextFault.{TextFault}
use Rattle.reading.specs.declared.refusal.Refusal.{Refusal}
use Rattle.reading.specs.Refusals.{text_refusal}
use Rattle.reading.specs.Reading.{read_ticket}
use Rattle.machine.specs.Refusals.{no_room, is_held, too_short, no_entry}
use Rattle.machine.specs.Machine.{System, Entry, empty, held, Machine, free_nodes}
use Rattle.machine.specs.Reducing.{Stop, finished, spent, short, Reduced, reduction}

pub data Call : Type 0 where
  enter : (entry : ℕ) (text : List ℕ) → Call
  reduce : (entry : ℕ) (allowed : ℕ) → Call
  show : (entry : ℕ) (buffer : List ℕ) → Call
  strike : (entry : ℕ) → Call
  free : Call

pub data Answer : Type 0 where
  entered : Answer
  reduced : Reduced → Answer
  shown : (length : ℕ) → Answer
  struck : Answer
  counted : (free : ℕ) → Answer
  refused : Refusal → Answer

-- the machine after a call, the answer, and what the buffer of a show then holds; other calls have none
pub record Outcome : Type 0 where
  pub machine : Machine
  pub answer : Answer
  pub buffer : List ℕ

-- the machine stays as it is, and there is no buffer
abbrev pub with_answer : Machine → Answer → Outcome
with_answer m a = record { machine = m; answer = a; buffer = [] }

-- an entry becomes another, and there is no buffer
abbrev pub with_entry : Machine → ℕ → Entry → Answer → Outcome
with_entry m e x a = record { machine = record { nodes = m.nodes; entries = slice_set m.entries e x }; answer = a; buffer = [] }

-- ---- enter: the text's refusal first, then 20, 18 and 17

abbrev pub enter_ticket : System → Machine → ℕ → Term → Option Entry → Outcome
enter_ticket s m e t None = with_answer m (refused (no_entry e))
enter_ticket s m e t (Some (held u n f)) = with_answer m (refused (is_held e))
enter_ticket s m e t (Some empty) = cond (nat_le (symbols t) (free_nodes s m)) (with_entry m e (held t 0 false) entered) (with_answer m (refused (no_room (symbols t) (free_nodes s m))))

abbrev pub enter_read : System → Machine → ℕ → Result Term TextFault → Outcome
enter_read s m e (Err f) = with_answer m (refused (text_refusal f))
enter_read s m e (Ok t) = enter_ticket s m e t (slice_get m.entries e)

-- ---- reduce: the steps made are added to the entry's, and it is finished once a reduce answered so

abbrev pub is_finished : Stop → Bool
is_finished finished = true
is_finished spent = false
is_finished short = false

abbrev pub reduce_held : Machine → ℕ → Term → ℕ → Bool → Reduced → Outcome
reduce_held m e t n f r = with_entry m e (held t (n + r.steps) (f || is_finished r.stop)) (reduced r)

abbrev pub reduce_entry : System → Machine → ℕ → ℕ → Option Entry → Outcome
reduce_entry s m e allowed None = with_answer m (refused (no_entry e))
reduce_entry s m e allowed (Some empty) = with_answer m (refused (no_entry e))
reduce_entry s m e allowed (Some (held t n f)) = reduce_held m e t n f (reduction s.rules allowed (free_nodes s m) (run s.rules n t))

-- ---- show: 20 before 19; the text at the front of the buffer, and the rest as it was

abbrev pub show_text : Machine → ℕ → List ℕ → List ℕ → Outcome
show_text m e text buffer =
    cond (nat_le (length text) (length buffer)) (record { machine = m; answer = shown (length text); buffer = text ++ drop (length text) buffer })
    (record { machine = m; answer = refused (too_short e); buffer = buffer })

abbrev pub show_entry : System → Machine → ℕ → List ℕ → Option Entry → Outcome
show_entry s m e buffer None = record { machine = m; answer = refused (no_entry e); buffer = buffer }
show_entry s m e buffer (Some empty) = record { machine = m; answer = refused (no_entry e); buffer = buffer }
show_entry s m e buffer (Some (held t n f)) = show_text m e (text_of s.operators (run s.rules n t)) buffer

-- ---- strike

abbrev pub strike_entry : Machine → ℕ → Option Entry → Outcome
strike_entry m e None = with_answer m (refused (no_entry e))
strike_entry m e (Some empty) = with_answer m (refused (no_entry e))
strike_entry m e (Some (held t n f)) = with_entry m e empty struck

-- ---- every call

abbrev pub call : System → Machine → Call → Outcome
call s m (enter e text) = enter_read s m e (read_ticket s.operators text)
call s m (reduce e allowed) = reduce_entry s m e allowed (slice_get m.entries e)
call s m (show e buffer) = show_entry s m e buffer (slice_get m.entries e)
call s m (strike e) = strike_entry m e (slice_get m.entries e)
call s m free = with_answer m (counted (free_nodes s m))

-- the buffer that a call is given: a show's own, and none for other calls
abbrev pub buffer_given : Call → List ℕ
buffer_given (enter e text) = []
buffer_given (reduce e allowed) = []
buffer_given (show e buffer) = buffer
buffer_given (strike e) = []
buffer_given free = []

-- the machine after a list of calls, refused ones included
abbrev pub after : System → Machine → List Call → Machine
after s m [] = m
after s m (c ∷ cs) = after s (call s m c).machine cs

-- the answers to a list of calls
abbrev pub answers_to : System → Machine → List Call → List Answer
answers_to s m [] = []
answers_to s m (c ∷ cs) = (call s m c).answer ∷ answers_to s (call s m c).machine cs

-- and what the buffers of its shows then hold
abbrev pub buffers_of : System → Machine → List Call → List (List ℕ)
buffers_of s m [] = []
buffers_of s m (c ∷ cs) = (call s m c).buffer ∷ buffers_of s (call s m c).machine cs
