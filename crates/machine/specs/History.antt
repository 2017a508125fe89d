-- What an entry holds, told by the calls and the answers alone.
use Rattle.std.specs.Prelude.{◌≡◌, ℕ, suc, ◌+◌, Bool, false, cond, ◌&&◌, ◌||◌, List, [], ◌∷◌, drop, Some, Ok, slice_get, ◌==◌}
use Rattle.terms.specs.Term.{Term}
use Rattle.reading.specs.Reading.{read_ticket}
use Rattle.machine.specs.Machine.{System}
use Rattle.machine.specs.Calls.{Call, enter, reduce, strike, Answer, entered, reduced, is_finished}

-- the steps that a reduce of the entry answered
abbrev pub steps_made : ℕ → Call → Answer → ℕ
steps_made e (reduce d allowed) (reduced r) = cond (d == e) r.steps 0
steps_made e c x = 0

-- whether a reduce of the entry answered finished
abbrev pub finished_by : ℕ → Call → Answer → Bool
finished_by e (reduce d allowed) (reduced r) = (d == e) && is_finished r.stop
finished_by e c x = false

-- added up over calls and their answers
abbrev pub steps_made_in : ℕ → List Call → List Answer → ℕ
steps_made_in e [] xs = 0
steps_made_in e (c ∷ cs) [] = 0
steps_made_in e (c ∷ cs) (x ∷ xs) = steps_made e c x + steps_made_in e cs xs

-- by one of them
abbrev pub finished_in : ℕ → List Call → List Answer → Bool
finished_in e [] xs = false
finished_in e (c ∷ cs) [] = false
finished_in e (c ∷ cs) (x ∷ xs) = finished_by e c x || finished_in e cs xs

-- an entry is held since an enter of it that was not refused, which gave its ticket, and no strike of it came later. Its steps are those that the reduces of it since then answered, added up, and it is finished if one of them answered finished
pub record HeldSince (s : System) (e : ℕ) (cs : List Call) (xs : List Answer) (t : Term) (n : ℕ) (f : Bool) : Type 0 where
  pub earlier : ℕ
  pub text : List ℕ
  pub enters : slice_get cs earlier ≡ Some (enter e text)
  pub not_refused : slice_get xs earlier ≡ Some entered
  pub reads : read_ticket s.operators text ≡ Ok t
  pub never_struck : (k : ℕ) → slice_get (drop (suc earlier) cs) k ≡ Some (strike e) → ⊥
  pub steps : n ≡ steps_made_in e (drop (suc earlier) cs) (drop (suc earlier) xs)
  pub finishes : f ≡ finished_in e (drop (suc earlier) cs) (drop (suc earlier) xs)
