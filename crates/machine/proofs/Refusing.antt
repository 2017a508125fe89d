-- A refused call changes nothing.
use Rattle.std.proofs.Common.{◌≡◌, refl, false, slice_get, List, [], ◌++◌, length, drop, Some, None, Ok, Err, Option, Result, ℕ, nat_le}
use Rattle.std.proofs.lemmas.Bool.{cond_both}
use Rattle.terms.specs.Term.{Term, symbols}
use Rattle.terms.specs.Text.{text_of}
use Rattle.rewriting.specs.Next.{run}
use Rattle.reading.specs.declared.fault.TextFault.{TextFault}
use Rattle.reading.specs.declared.refusal.Refusal.{Refusal}
use Rattle.reading.specs.Reading.{read_ticket}
use Rattle.machine.specs.Refusals.{no_room, too_short}
use Rattle.machine.specs.Machine.{System, Entry, empty, held, Machine, free_nodes}
use Rattle.machine.specs.Reducing.{Reduced}
use Rattle.machine.specs.Calls.{enter, reduce, show, strike, free, entered, reduced, shown, struck, refused, Outcome, with_answer, with_entry, enter_ticket, enter_read, reduce_entry, show_text, show_entry, strike_entry}
use Rattle.machine.specs.Laws.{RefusedStay}

-- an outcome that changes nothing, if it is a refusal
abbrev Stays : Machine → List ℕ → Outcome → Type 0
Stays m buffer x = (r : Refusal) → x.answer ≡ refused r → (x.machine ≡ m) × (x.buffer ≡ buffer)

entered_refused : {r : Refusal} → entered ≡ refused r → ⊥
entered_refused e = cc

reduced_refused : {x : Reduced} {r : Refusal} → reduced x ≡ refused r → ⊥
reduced_refused e = cc

shown_refused : {n : ℕ} {r : Refusal} → shown n ≡ refused r → ⊥
shown_refused e = cc

struck_refused : {r : Refusal} → struck ≡ refused r → ⊥
struck_refused e = cc

module _ (s : System) (m : Machine) where
  ticket_stays : (e : ℕ) (t : Term) (o : Option Entry) → Stays m [] (enter_ticket s m e t o)
  ticket_stays e t None = λ r q. (refl, refl)
  ticket_stays e t (Some (held u n f)) = λ r q. (refl, refl)
  ticket_stays e t (Some empty) =
      cond_both (nat_le (symbols t) (free_nodes s m)) (with_entry m e (held t 0 false) entered) (with_answer m (refused (no_room (symbols t) (free_nodes s m)))) (Stays m []) (λ p r q. absurd (entered_refused q)) (λ p r q. (refl, refl))

  read_stays : (e : ℕ) (o : Result Term TextFault) → Stays m [] (enter_read s m e o)
  read_stays e (Err f) = λ r q. (refl, refl)
  read_stays e (Ok t) = ticket_stays e t (slice_get m.entries e)

  reduce_stays : (e allowed : ℕ) (o : Option Entry) → Stays m [] (reduce_entry s m e allowed o)
  reduce_stays e allowed None r q = (refl, refl)
  reduce_stays e allowed (Some empty) r q = (refl, refl)
  reduce_stays e allowed (Some (held t n f)) r q = absurd (reduced_refused q)

  text_stays : (e : ℕ) (text buffer : List ℕ) → Stays m buffer (show_text m e text buffer)
  text_stays e text buffer =
      cond_both {A = Outcome} (nat_le (length text) (length buffer)) (record { machine = m; answer = shown (length text); buffer = text ++ drop (length text) buffer }) (record { machine = m; answer = refused (too_short e); buffer = buffer }) (Stays m buffer) (λ p r q. absurd (shown_refused q)) (λ p r q. (refl, refl))

  show_stays_so : (e : ℕ) (buffer : List ℕ) (o : Option Entry) → Stays m buffer (show_entry s m e buffer o)
  show_stays_so e buffer None = λ r q. (refl, refl)
  show_stays_so e buffer (Some empty) = λ r q. (refl, refl)
  show_stays_so e buffer (Some (held t n f)) = text_stays e (text_of s.operators (run s.rules n t)) buffer

  strike_stays : (e : ℕ) (o : Option Entry) → Stays m [] (strike_entry m e o)
  strike_stays e None r q = (refl, refl)
  strike_stays e (Some empty) r q = (refl, refl)
  strike_stays e (Some (held t n f)) r q = absurd (struck_refused q)

pub refused_stay : RefusedStay
refused_stay s m (enter e text) = read_stays s m e (read_ticket s.operators text)
refused_stay s m (reduce e allowed) = reduce_stays s m e allowed (slice_get m.entries e)
refused_stay s m (show e buffer) = show_stays_so s m e buffer (slice_get m.entries e)
refused_stay s m (strike e) = strike_stays s m e (slice_get m.entries e)
refused_stay s m free = λ r q. (refl, refl)
