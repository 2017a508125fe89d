-- What the machine keeps, call by call.
use Rattle.std.proofs.Common.{◌≡◌, ◌≢◌, refl, sym, ◌∙◌, ap, subst, Bool, true, false, ◌||◌, List, [], ◌∷◌, Some, None, Ok, Err, Option, Result, ◌⊎◌, inl, inr, ℕ, ◌+◌, ◌-◌, ◌<◌, ◌≤◌, nat_le, leb-true, set, true≢false, length, drop, ◌++◌, slice_get, arith}
use Rattle.std.proofs.lemmas.Bool.{cond_both}
use Rattle.std.proofs.lemmas.List.Folds.{sum_by-replicate}
use Rattle.std.proofs.Math.Option.{none}
use Rattle.std.proofs.Math.Decide.{dec_lt}
use Rattle.terms.specs.Term.{Term, symbols}
use Rattle.terms.specs.Text.{text_of}
use Rattle.terms.specs.Ticket.{Ticket}
use Rattle.terms.specs.Signature.{Declared}
use Rattle.rewriting.specs.Next.{next, run}
use Rattle.rewriting.proofs.Filling.{none_some}
use Rattle.rewriting.proofs.Converging.{run_stays, run_then}
use Rattle.reading.specs.declared.fault.TextFault.{TextFault}
use Rattle.reading.specs.Reading.{read_ticket}
use Rattle.reading.specs.Laws.{Explained}
use Rattle.reading.proofs.Reading.{ticket_law}
use Rattle.machine.specs.Refusals.{no_room, too_short}
use Rattle.machine.specs.Machine.{System, Entry, empty, held, Machine, opened, symbols_of, symbols_held, free_nodes}
use Rattle.machine.specs.Reducing.{Stop, finished, spent, short, Reduced, reduction}
use Rattle.machine.specs.Calls.{Call, enter, reduce, show, strike, free, entered, shown, refused, Outcome, with_answer, with_entry, enter_ticket, enter_read, is_finished, reduce_held, reduce_entry, show_entry, strike_entry, call, after}
use Rattle.machine.proofs.Table.{in_set, sum_set, in_replicate}
use Rattle.machine.proofs.Reducing.{StopsByNext, ByNext, reduces, reduces_room}

-- ---- what is kept

-- the next steps from a ticket so far: none of them was the last, and there is no further one if it is finished
pub record Running (s : System) (t : Term) (n : ℕ) (f : Bool) : Type 0 where
  pub ticket : Ticket s.operators t
  pub going : (k : ℕ) → k < n → next s.rules (run s.rules k t) ≢ none
  pub ended : f ≡ true → next s.rules (run s.rules n t) ≡ none

abbrev pub Sound : System → Entry → Type 0
Sound s empty = Unit {0}
Sound s (held t n f) = Running s t n f

pub record Holding (s : System) (m : Machine) : Type 0 where
  pub sound : (i : ℕ) (e : Entry) → slice_get m.entries i ≡ Some e → Sound s e
  pub room : symbols_held s m ≤ m.nodes

holding_opened : (s : System) (nodes entries : ℕ) → Holding s (opened nodes entries)
holding_opened s nodes entries =
    let h = sum_by-replicate (symbols_of s.rules) entries empty in
    record { sound = λ i e q. subst (Sound s) (sym (in_replicate entries empty e i q)) tt; room = omega arith }

-- an entry becomes another
holding_set : (s : System) (m : Machine) (i : ℕ) (x old : Entry) → Holding s m → slice_get m.entries i ≡ Some old → Sound s x → symbols_of s.rules x ≤ free_nodes s m + symbols_of s.rules old → Holding s (record { nodes = m.nodes; entries = set m.entries i x })
holding_set s m i x old a q h k =
    let r = a.room in
    let b = sum_set (symbols_of s.rules) m.entries i x old q in
    record { sound = λ j e p. go j e (in_set m.entries i x j e p); room = omega arith }
  where
    go : (j : ℕ) (e : Entry) → ((i ≡ j) × (x ≡ e)) ⊎ ((i ≡ j → ⊥) × (slice_get m.entries j ≡ Some e)) → Sound s e
    go j e (inl p) = subst (Sound s) p.1 h
    go j e (inr p) = a.sound j e p.1

module _ (s : System) where
  -- more next steps
  running_on : (t : Term) (n : ℕ) (f : Bool) (allowed left : ℕ) (r : Reduced) → Running s t n f → ByNext s.rules allowed left (run s.rules n t) r → Running s t (n + r.steps) (f || is_finished r.stop)
  running_on t n f allowed left r a b = record { ticket = a.ticket; going = going; ended = ended f r.stop b.stops a }
    where
      going : (k : ℕ) → k < n + r.steps → next s.rules (run s.rules k t) ≢ none
      going k h e = go (dec_lt k n)
        where
          go : Dec (k < n) → ⊥
          go (yes j) = a.going k j e
          go (no j) =
              let w : n + (k - n) ≡ k = omega arith in
              let g = b.made (k - n) (omega arith) in
              none_some (sym e ∙ ap (λ z. next s.rules (run s.rules z t)) (sym w) ∙ ap (next s.rules) (sym (run_then s.rules n (k - n) t)) ∙ g.is_next)

      ended : (f : Bool) (q : Stop) → StopsByNext s.rules allowed left (run s.rules n t) r.steps q → Running s t n f → (f || is_finished q) ≡ true → next s.rules (run s.rules (n + r.steps) t) ≡ none
      ended true q w a e = ap (next s.rules) (sym (run_then s.rules n r.steps t) ∙ run_stays s.rules r.steps (run s.rules n t) (a.ended refl)) ∙ a.ended refl
      ended false finished w a e = ap (next s.rules) (sym (run_then s.rules n r.steps t)) ∙ w
      ended false spent w a e = absurd (true≢false (sym e))
      ended false short w a e = absurd (true≢false (sym e))

  keep_ticket : (m : Machine) (e : ℕ) (t : Term) → Ticket s.operators t → (o : Option Entry) → slice_get m.entries e ≡ o → Holding s m → Holding s (enter_ticket s m e t o).machine
  keep_ticket m e t h None q a = a
  keep_ticket m e t h (Some (held u n f)) q a = a
  keep_ticket m e t h (Some empty) q a =
      cond_both (nat_le (symbols t) (free_nodes s m)) (with_entry m e (held t 0 false) entered) (with_answer m (refused (no_room (symbols t) (free_nodes s m)))) (λ x. Holding s x.machine)
      (λ p. holding_set s m e (held t 0 false) empty a q (record { ticket = h; going = λ k j. absurd (omega arith); ended = λ c. absurd (true≢false (sym c)) }) (let k = leb-true (symbols t) (free_nodes s m) p in omega arith))
      (λ p. a)

  keep_read : (m : Machine) (e : ℕ) (o : Result Term TextFault) → ((t : Term) → o ≡ Ok t → Ticket s.operators t) → Holding s m → Holding s (enter_read s m e o).machine
  keep_read m e (Err f) h a = a
  keep_read m e (Ok t) h a = keep_ticket m e t (h t refl) (slice_get m.entries e) refl a

  keep_reduce : (m : Machine) (e allowed : ℕ) (o : Option Entry) → slice_get m.entries e ≡ o → Holding s m → Holding s (reduce_entry s m e allowed o).machine
  keep_reduce m e allowed None q a = a
  keep_reduce m e allowed (Some empty) q a = a
  keep_reduce m e allowed (Some (held t n f)) q a = go (reduction s.rules allowed (free_nodes s m) (run s.rules n t)) (reduces s.rules allowed (free_nodes s m) (run s.rules n t))
    where
      go : (r : Reduced) → ByNext s.rules allowed (free_nodes s m) (run s.rules n t) r → Holding s (reduce_held m e t n f r).machine
      go r b =
          holding_set s m e (held t (n + r.steps) (f || is_finished r.stop)) (held t n f) a q (running_on t n f allowed (free_nodes s m) r (a.sound e (held t n f) q) b)
          (subst (λ z. symbols z ≤ free_nodes s m + symbols (run s.rules n t)) (run_then s.rules n r.steps t) (reduces_room s.rules allowed (free_nodes s m) (run s.rules n t) r b))

  keep_strike : (m : Machine) (e : ℕ) (o : Option Entry) → slice_get m.entries e ≡ o → Holding s m → Holding s (strike_entry m e o).machine
  keep_strike m e None q a = a
  keep_strike m e (Some empty) q a = a
  keep_strike m e (Some (held t n f)) q a = holding_set s m e empty (held t n f) a q tt (omega arith)

-- a show leaves the machine as it is
pub show_stays : (s : System) (m : Machine) (e : ℕ) (buffer : List ℕ) (o : Option Entry) → (show_entry s m e buffer o).machine ≡ m
show_stays s m e buffer None = refl
show_stays s m e buffer (Some empty) = refl
show_stays s m e buffer (Some (held t n f)) =
    let text = text_of s.operators (run s.rules n t) in
    cond_both {A = Outcome} (nat_le (length text) (length buffer)) (record { machine = m; answer = shown (length text); buffer = text ++ drop (length text) buffer }) (record { machine = m; answer = refused (too_short e); buffer = buffer }) (λ x. x.machine ≡ m) (λ p. refl) (λ p. refl)

-- what is read is a ticket
read_is_ticket : (s : System) → Declared s.operators → (b : List ℕ) (t : Term) → read_ticket s.operators b ≡ Ok t → Ticket s.operators t
read_is_ticket s d b t q = (subst (Explained s.operators b) q (ticket_law s.operators d b).explained).0

keep : (s : System) → Declared s.operators → (m : Machine) (c : Call) → Holding s m → Holding s (call s m c).machine
keep s d m (enter e text) a = keep_read s m e (read_ticket s.operators text) (λ t q. read_is_ticket s d text t q) a
keep s d m (reduce e allowed) a = keep_reduce s m e allowed (slice_get m.entries e) refl a
keep s d m (show e buffer) a = subst (Holding s) (sym (show_stays s m e buffer (slice_get m.entries e))) a
keep s d m (strike e) a = keep_strike s m e (slice_get m.entries e) refl a
keep s d m free a = a

keep_after : (s : System) → Declared s.operators → (m : Machine) (cs : List Call) → Holding s m → Holding s (after s m cs)
keep_after s d m [] a = a
keep_after s d m (c ∷ cs) a = keep_after s d (call s m c).machine cs (keep s d m c a)

pub always_holding : (s : System) → Declared s.operators → (nodes entries : ℕ) (cs : List Call) → Holding s (after s (opened nodes entries) cs)
always_holding s d nodes entries cs = keep_after s d (opened nodes entries) cs (holding_opened s nodes entries)

-- ---- the pool stays

nodes_ticket : (s : System) (m : Machine) (e : ℕ) (t : Term) (o : Option Entry) → (enter_ticket s m e t o).machine.nodes ≡ m.nodes
nodes_ticket s m e t None = refl
nodes_ticket s m e t (Some (held u n f)) = refl
nodes_ticket s m e t (Some empty) =
    cond_both (nat_le (symbols t) (free_nodes s m)) (with_entry m e (held t 0 false) entered) (with_answer m (refused (no_room (symbols t) (free_nodes s m)))) (λ x. x.machine.nodes ≡ m.nodes) (λ p. refl) (λ p. refl)

nodes_read : (s : System) (m : Machine) (e : ℕ) (o : Result Term TextFault) → (enter_read s m e o).machine.nodes ≡ m.nodes
nodes_read s m e (Err f) = refl
nodes_read s m e (Ok t) = nodes_ticket s m e t (slice_get m.entries e)

nodes_reduce : (s : System) (m : Machine) (e allowed : ℕ) (o : Option Entry) → (reduce_entry s m e allowed o).machine.nodes ≡ m.nodes
nodes_reduce s m e allowed None = refl
nodes_reduce s m e allowed (Some empty) = refl
nodes_reduce s m e allowed (Some (held t n f)) = refl

nodes_strike : (m : Machine) (e : ℕ) (o : Option Entry) → (strike_entry m e o).machine.nodes ≡ m.nodes
nodes_strike m e None = refl
nodes_strike m e (Some empty) = refl
nodes_strike m e (Some (held t n f)) = refl

nodes_call : (s : System) (m : Machine) (c : Call) → (call s m c).machine.nodes ≡ m.nodes
nodes_call s m (enter e text) = nodes_read s m e (read_ticket s.operators text)
nodes_call s m (reduce e allowed) = nodes_reduce s m e allowed (slice_get m.entries e)
nodes_call s m (show e buffer) = ap (λ z. z.nodes) (show_stays s m e buffer (slice_get m.entries e))
nodes_call s m (strike e) = nodes_strike m e (slice_get m.entries e)
nodes_call s m free = refl

pub nodes_after : (s : System) (m : Machine) (cs : List Call) → (after s m cs).nodes ≡ m.nodes
nodes_after s m [] = refl
nodes_after s m (c ∷ cs) = nodes_after s (call s m c).machine cs ∙ nodes_call s m c
