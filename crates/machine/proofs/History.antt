-- What the entries hold is what the calls and answers tell.
use Rattle.std.proofs.Common.{◌≡◌, refl, sym, ◌∙◌, ap, subst, Bool, false, cond, ◌||◌, ◌&&◌, List, [], ◌∷◌, drop, Some, None, Ok, Err, Option, Result, ◌⊎◌, inl, inr, ℕ, zero, suc, ◌+◌, nat_le, set, slice_get, ne_eqb, eq-eqb, arith}
use Rattle.std.proofs.lemmas.Bool.{cond_both}
use Rattle.std.proofs.Math.Bool.{or-false, or_assoc}
use Rattle.std.proofs.Math.Decide.{ℕ_discrete}
use Rattle.terms.specs.Term.{Term, symbols}
use Rattle.rewriting.specs.Next.{run}
use Rattle.reading.specs.declared.fault.TextFault.{TextFault}
use Rattle.reading.specs.Refusals.{text_refusal}
use Rattle.reading.specs.Reading.{read_ticket}
use Rattle.reading.specs.declared.refusal.Refusal.{Refusal}
use Rattle.machine.specs.Refusals.{no_room, is_held, no_entry}
use Rattle.machine.specs.Machine.{System, Entry, empty, held, Machine, opened, free_nodes}
use Rattle.machine.specs.Reducing.{Reduced, reduction}
use Rattle.machine.specs.Calls.{Call, enter, reduce, show, strike, free, Answer, entered, reduced, struck, counted, refused, with_answer, with_entry, enter_ticket, enter_read, is_finished, reduce_held, reduce_entry, strike_entry, call, after, answers_to}
use Rattle.machine.specs.History.{steps_made, finished_by, steps_made_in, finished_in, HeldSince}
use Rattle.machine.specs.Whole.{Holds}
use Rattle.machine.specs.Laws.{HistoryTells}
use Rattle.machine.proofs.Table.{None_Some, in_set, set_here, set_there, in_replicate}
use Rattle.machine.proofs.Keeping.{show_stays}

-- ---- one call, backwards

-- an entry that is held after a call was entered by it; or it was held before, and the call was no strike of it and made its steps
data Came (s : System) (m : Machine) (e : ℕ) (c : Call) (x : Answer) (t : Term) (n : ℕ) (f : Bool) : Type 0 where
  entered_now : (text : List ℕ) → c ≡ enter e text → x ≡ entered → read_ticket s.operators text ≡ Ok t → n ≡ 0 → f ≡ false → Came s m e c x t n f
  held_before : (k : ℕ) (g : Bool) → Holds m e t k g → (c ≡ strike e → ⊥) → n ≡ k + steps_made e c x → f ≡ (g || finished_by e c x) → Came s m e c x t n f

or_false : (f : Bool) → f ≡ (f || false)
or_false f = sym (or-false f)

-- entries that are one hold the same
record SameHeld (u : Term) (k : ℕ) (g : Bool) (t : Term) (n : ℕ) (f : Bool) : Type 0 where
  ticket : u ≡ t
  steps : k ≡ n
  finishes : g ≡ f

same_held : {u : Term} {k : ℕ} {g : Bool} {t : Term} {n : ℕ} {f : Bool} → held u k g ≡ held t n f → SameHeld u k g t n f
same_held e = record { ticket = cc; steps = cc; finishes = cc }

some_entry : {x y : Entry} → Some x ≡ Some y → x ≡ y
some_entry e = cc

some_call : {x y : Call} → Some x ≡ Some y → x ≡ y
some_call e = cc

some_answer : {x y : Answer} → Some x ≡ Some y → x ≡ y
some_answer e = cc

not_empty : {t : Term} {n : ℕ} {f : Bool} → empty ≡ held t n f → ⊥
not_empty e = cc

not_refused : {r : Refusal} → refused r ≡ entered → ⊥
not_refused e = cc

strike_same : {d e : ℕ} → strike d ≡ strike e → d ≡ e
strike_same q = cc

enter_strike : {d e : ℕ} {text : List ℕ} → enter d text ≡ strike e → ⊥
enter_strike q = cc

reduce_strike : {d e allowed : ℕ} → reduce d allowed ≡ strike e → ⊥
reduce_strike q = cc

show_strike : {d e : ℕ} {buffer : List ℕ} → show d buffer ≡ strike e → ⊥
show_strike q = cc

free_strike : {e : ℕ} → free ≡ strike e → ⊥
free_strike q = cc

module _ (s : System) (m : Machine) (e : ℕ) (t : Term) where
  -- a call that makes no steps and leaves the entry as it is
  stays : (c : Call) (x : Answer) (n : ℕ) (f : Bool) → Holds m e t n f → (c ≡ strike e → ⊥) → steps_made e c x ≡ 0 → finished_by e c x ≡ false → Came s m e c x t n f
  stays c x n f h ns p q = held_before n f h ns (omega arith) (or_false f ∙ ap (λ z. f || z) (sym q))

  came_ticket : (d : ℕ) (text : List ℕ) (u : Term) → read_ticket s.operators text ≡ Ok u → (n : ℕ) (f : Bool) (o : Option Entry) → Holds (enter_ticket s m d u o).machine e t n f → Came s m e (enter d text) (enter_ticket s m d u o).answer t n f
  came_ticket d text u r n f None h = stays (enter d text) _ n f h enter_strike refl refl
  came_ticket d text u r n f (Some (held v k g)) h = stays (enter d text) _ n f h enter_strike refl refl
  came_ticket d text u r n f (Some empty) h =
      cond_both (nat_le (symbols u) (free_nodes s m)) (with_entry m d (held u 0 false) entered) (with_answer m (refused (no_room (symbols u) (free_nodes s m))))
      (λ x. Holds x.machine e t n f → Came s m e (enter d text) x.answer t n f) (λ p h. new (in_set m.entries d (held u 0 false) e (held t n f) h)) (λ p h. stays (enter d text) _ n f h enter_strike refl refl) h
    where
      new : ((d ≡ e) × (held u 0 false ≡ held t n f)) ⊎ ((d ≡ e → ⊥) × Holds m e t n f) → Came s m e (enter d text) entered t n f
      new (inl (q, w)) = let i = same_held w in entered_now text (ap (λ z. enter z text) q) refl (r ∙ ap Ok i.ticket) (sym i.steps) (sym i.finishes)
      new (inr (q, w)) = stays (enter d text) entered n f w enter_strike refl refl

  came_read : (d : ℕ) (text : List ℕ) (n : ℕ) (f : Bool) (o : Result Term TextFault) → read_ticket s.operators text ≡ o → Holds (enter_read s m d o).machine e t n f → Came s m e (enter d text) (enter_read s m d o).answer t n f
  came_read d text n f (Err w) r h = stays (enter d text) _ n f h enter_strike refl refl
  came_read d text n f (Ok u) r h = came_ticket d text u r n f (slice_get m.entries d) h

  came_reduced : (d allowed : ℕ) (u : Term) (k : ℕ) (g : Bool) (r : Reduced) → slice_get m.entries d ≡ Some (held u k g) → (n : ℕ) (f : Bool) → Holds (reduce_held m d u k g r).machine e t n f → Came s m e (reduce d allowed) (reduced r) t n f
  came_reduced d allowed u k g r q n f h = go (in_set m.entries d (held u (k + r.steps) (g || is_finished r.stop)) e (held t n f) h)
    where
      go : ((d ≡ e) × (held u (k + r.steps) (g || is_finished r.stop) ≡ held t n f)) ⊎ ((d ≡ e → ⊥) × Holds m e t n f) → Came s m e (reduce d allowed) (reduced r) t n f
      go (inl (w, z)) =
          let i = same_held z in
          let h : Holds m e t k g = subst (λ y. Holds m y t k g) w (subst (λ y. Holds m d y k g) i.ticket q) in
          held_before k g h reduce_strike (sym i.steps ∙ ap (λ b. k + cond b r.steps 0) (sym (eq-eqb d e w))) (sym i.finishes ∙ ap (λ b. g || (b && is_finished r.stop)) (sym (eq-eqb d e w)))
      go (inr (w, z)) = stays (reduce d allowed) (reduced r) n f z reduce_strike (ap (λ b. cond b r.steps 0) (ne_eqb d e w)) (ap (λ b. b && is_finished r.stop) (ne_eqb d e w))

  came_reduce : (d allowed : ℕ) (n : ℕ) (f : Bool) (o : Option Entry) → slice_get m.entries d ≡ o → Holds (reduce_entry s m d allowed o).machine e t n f → Came s m e (reduce d allowed) (reduce_entry s m d allowed o).answer t n f
  came_reduce d allowed n f None q h = stays (reduce d allowed) _ n f h reduce_strike refl refl
  came_reduce d allowed n f (Some empty) q h = stays (reduce d allowed) _ n f h reduce_strike refl refl
  came_reduce d allowed n f (Some (held u k g)) q h = came_reduced d allowed u k g (reduction s.rules allowed (free_nodes s m) (run s.rules k u)) q n f h

  came_strike : (d : ℕ) (n : ℕ) (f : Bool) (o : Option Entry) → slice_get m.entries d ≡ o → Holds (strike_entry m d o).machine e t n f → Came s m e (strike d) (strike_entry m d o).answer t n f
  came_strike d n f None q h = stays (strike d) _ n f h (λ z. None_Some (sym q ∙ ap (slice_get m.entries) (strike_same z) ∙ h)) refl refl
  came_strike d n f (Some empty) q h = stays (strike d) _ n f h (λ z. not_empty (some_entry (sym q ∙ ap (slice_get m.entries) (strike_same z) ∙ h))) refl refl
  came_strike d n f (Some (held u k g)) q h = go (in_set m.entries d empty e (held t n f) h)
    where
      go : ((d ≡ e) × (empty ≡ held t n f)) ⊎ ((d ≡ e → ⊥) × Holds m e t n f) → Came s m e (strike d) struck t n f
      go (inl (w, z)) = absurd (not_empty z)
      go (inr (w, z)) = stays (strike d) struck n f z (λ y. w (strike_same y)) refl refl

  came : (c : Call) (n : ℕ) (f : Bool) → Holds (call s m c).machine e t n f → Came s m e c (call s m c).answer t n f
  came (enter d text) n f h = came_read d text n f (read_ticket s.operators text) refl h
  came (reduce d allowed) n f h = came_reduce d allowed n f (slice_get m.entries d) refl h
  came (show d buffer) n f h = stays (show d buffer) _ n f (subst (λ z. Holds z e t n f) (show_stays s m d buffer (slice_get m.entries d)) h) show_strike refl refl
  came (strike d) n f h = came_strike d n f (slice_get m.entries d) refl h
  came free n f h = stays free _ n f h free_strike refl refl

-- ---- all calls, backwards

record Carried (m : Machine) (e : ℕ) (cs : List Call) (xs : List Answer) (t : Term) (n : ℕ) (f : Bool) : Type 0 where
  steps_then : ℕ
  finished_then : Bool
  held_then : Holds m e t steps_then finished_then
  never_struck : (k : ℕ) → slice_get cs k ≡ Some (strike e) → ⊥
  steps : n ≡ steps_then + steps_made_in e cs xs
  finishes : f ≡ (finished_then || finished_in e cs xs)

told : (s : System) (e : ℕ) (t : Term) (n : ℕ) (f : Bool) (cs : List Call) (m : Machine) → Holds (after s m cs) e t n f → HeldSince s e cs (answers_to s m cs) t n f ⊎ Carried m e cs (answers_to s m cs) t n f
told s e t n f [] m h = inr (record { steps_then = n; finished_then = f; held_then = h; never_struck = λ k q. None_Some q; steps = omega arith; finishes = or_false f })
told s e t n f (c ∷ cs) m h = go (told s e t n f cs (call s m c).machine h)
  where
    xs : List Answer
    xs = answers_to s (call s m c).machine cs

    one : (w : Carried (call s m c).machine e cs (answers_to s (call s m c).machine cs) t n f) → Came s m e c (call s m c).answer t w.steps_then w.finished_then
        → HeldSince s e (c ∷ cs) (answers_to s m (c ∷ cs)) t n f ⊎ Carried m e (c ∷ cs) (answers_to s m (c ∷ cs)) t n f
    one w (entered_now text p q r z o) =
        let a = w.steps in
        inl (record { earlier = 0; text = text; enters = ap Some p; not_refused = ap Some q; reads = r; never_struck = w.never_struck; steps = omega arith; finishes = w.finishes ∙ ap (λ b. b || finished_in e cs (answers_to s (call s m c).machine cs)) o })
    one w (held_before k g h ns p q) =
        let a = w.steps in
        inr (record {
          steps_then = k;
          finished_then = g;
          held_then = h;
          never_struck = struck_not;
          steps = omega arith;
          finishes = w.finishes ∙ ap (λ b. b || finished_in e cs (answers_to s (call s m c).machine cs)) q ∙ or_assoc g (finished_by e c (call s m c).answer) (finished_in e cs (answers_to s (call s m c).machine cs));
        })
      where
        struck_not : (i : ℕ) → slice_get (c ∷ cs) i ≡ Some (strike e) → ⊥
        struck_not zero z = ns (some_call z)
        struck_not (suc i) z = w.never_struck i z

    go : HeldSince s e cs (answers_to s (call s m c).machine cs) t n f ⊎ Carried (call s m c).machine e cs (answers_to s (call s m c).machine cs) t n f
        → HeldSince s e (c ∷ cs) (answers_to s m (c ∷ cs)) t n f ⊎ Carried m e (c ∷ cs) (answers_to s m (c ∷ cs)) t n f
    go (inl w) = inl (record { earlier = suc w.earlier; text = w.text; enters = w.enters; not_refused = w.not_refused; reads = w.reads; never_struck = w.never_struck; steps = w.steps; finishes = w.finishes })
    go (inr w) = one w (came s m e t c w.steps_then w.finished_then w.held_then)

-- ---- one call, forwards

module _ (s : System) (m : Machine) (e : ℕ) (t : Term) (k : ℕ) (g : Bool) (h : Holds m e t k g) where
  remains : (after' : Machine) (c : Call) (x : Answer) → Holds after' e t k g → steps_made e c x ≡ 0 → finished_by e c x ≡ false → Holds after' e t (k + steps_made e c x) (g || finished_by e c x)
  remains after' c x w p q =
      let z : k ≡ k + steps_made e c x = omega arith in
      let y : g ≡ (g || finished_by e c x) = or_false g ∙ ap (λ b. g || b) (sym q) in
      subst (λ b. Holds after' e t (k + steps_made e c x) b) y (subst (λ i. Holds after' e t i g) z w)

  other : (d : ℕ) (x : Entry) → (d ≡ e → ⊥) → slice_get (set m.entries d x) e ≡ Some (held t k g)
  other d x n = set_there m.entries d x e n ∙ h

  on_ticket : (d : ℕ) (text : List ℕ) (u : Term) (o : Option Entry) → slice_get m.entries d ≡ o → Holds (enter_ticket s m d u o).machine e t (k + steps_made e (enter d text) (enter_ticket s m d u o).answer) (g || finished_by e (enter d text) (enter_ticket s m d u o).answer)
  on_ticket d text u None q = remains m (enter d text) (refused (no_entry d)) h refl refl
  on_ticket d text u (Some (held v i b)) q = remains m (enter d text) (refused (is_held d)) h refl refl
  on_ticket d text u (Some empty) q =
      cond_both (nat_le (symbols u) (free_nodes s m)) (with_entry m d (held u 0 false) entered) (with_answer m (refused (no_room (symbols u) (free_nodes s m))))
      (λ x. Holds x.machine e t (k + steps_made e (enter d text) x.answer) (g || finished_by e (enter d text) x.answer))
      (λ p. remains (record { nodes = m.nodes; entries = set m.entries d (held u 0 false) }) (enter d text) entered (other d (held u 0 false) (λ z. not_empty (some_entry (sym q ∙ ap (slice_get m.entries) z ∙ h)))) refl refl)
      (λ p. remains m (enter d text) (refused (no_room (symbols u) (free_nodes s m))) h refl refl)

  on_read : (d : ℕ) (text : List ℕ) (o : Result Term TextFault) → Holds (enter_read s m d o).machine e t (k + steps_made e (enter d text) (enter_read s m d o).answer) (g || finished_by e (enter d text) (enter_read s m d o).answer)
  on_read d text (Err w) = remains m (enter d text) (refused (text_refusal w)) h refl refl
  on_read d text (Ok u) = on_ticket d text u (slice_get m.entries d) refl

  on_reduced : (d allowed : ℕ) (u : Term) (i : ℕ) (b : Bool) (r : Reduced) → slice_get m.entries d ≡ Some (held u i b) → Holds (reduce_held m d u i b r).machine e t (k + steps_made e (reduce d allowed) (reduced r)) (g || finished_by e (reduce d allowed) (reduced r))
  on_reduced d allowed u i b r q = go (ℕ_discrete d e)
    where
      new : Entry
      new = held u (i + r.steps) (b || is_finished r.stop)

      go : Dec (d ≡ e) → Holds (reduce_held m d u i b r).machine e t (k + steps_made e (reduce d allowed) (reduced r)) (g || finished_by e (reduce d allowed) (reduced r))
      go (yes w) =
          let j = same_held (some_entry (sym q ∙ ap (slice_get m.entries) w ∙ h)) in
          let a = subst (λ z. slice_get (set m.entries d (held u (i + r.steps) (b || is_finished r.stop))) z ≡ Some (held u (i + r.steps) (b || is_finished r.stop))) w (set_here m.entries d (held u (i + r.steps) (b || is_finished r.stop)) (held u i b) q) in
          let z = sym (eq-eqb d e w) in
          a ∙ (λ l. Some (held (j.ticket l) (j.steps l + cond (z l) r.steps 0) (j.finishes l || (z l && is_finished r.stop))))
      go (no w) = remains (reduce_held m d u i b r).machine (reduce d allowed) (reduced r) (other d (held u (i + r.steps) (b || is_finished r.stop)) w) (ap (λ z. cond z r.steps 0) (ne_eqb d e w)) (ap (λ z. z && is_finished r.stop) (ne_eqb d e w))

  on_reduce : (d allowed : ℕ) (o : Option Entry) → slice_get m.entries d ≡ o → Holds (reduce_entry s m d allowed o).machine e t (k + steps_made e (reduce d allowed) (reduce_entry s m d allowed o).answer) (g || finished_by e (reduce d allowed) (reduce_entry s m d allowed o).answer)
  on_reduce d allowed None q = remains m (reduce d allowed) (refused (no_entry d)) h refl refl
  on_reduce d allowed (Some empty) q = remains m (reduce d allowed) (refused (no_entry d)) h refl refl
  on_reduce d allowed (Some (held u i b)) q = on_reduced d allowed u i b (reduction s.rules allowed (free_nodes s m) (run s.rules i u)) q

  on_strike : (d : ℕ) → (strike d ≡ strike e → ⊥) → (o : Option Entry) → Holds (strike_entry m d o).machine e t (k + steps_made e (strike d) (strike_entry m d o).answer) (g || finished_by e (strike d) (strike_entry m d o).answer)
  on_strike d n None = remains m (strike d) (refused (no_entry d)) h refl refl
  on_strike d n (Some empty) = remains m (strike d) (refused (no_entry d)) h refl refl
  on_strike d n (Some (held u i b)) = remains (record { nodes = m.nodes; entries = set m.entries d empty }) (strike d) struck (other d empty (λ z. n (ap strike z))) refl refl

  on_call : (c : Call) → (c ≡ strike e → ⊥) → Holds (call s m c).machine e t (k + steps_made e c (call s m c).answer) (g || finished_by e c (call s m c).answer)
  on_call (enter d text) n = on_read d text (read_ticket s.operators text)
  on_call (reduce d allowed) n = on_reduce d allowed (slice_get m.entries d) refl
  on_call (show d buffer) n = remains (call s m (show d buffer)).machine (show d buffer) (call s m (show d buffer)).answer (subst (λ z. Holds z e t k g) (sym (show_stays s m d buffer (slice_get m.entries d))) h) refl refl
  on_call (strike d) n = on_strike d n (slice_get m.entries d)
  on_call free n = remains m free (counted (free_nodes s m)) h refl refl

-- ---- all calls, forwards

carried : (s : System) (e : ℕ) (t : Term) (cs : List Call) (m : Machine) (k : ℕ) (g : Bool) → Holds m e t k g → ((i : ℕ) → slice_get cs i ≡ Some (strike e) → ⊥)
    → Holds (after s m cs) e t (k + steps_made_in e cs (answers_to s m cs)) (g || finished_in e cs (answers_to s m cs))
carried s e t [] m k g h n =
    let z : k ≡ k + 0 = omega arith in
    subst (λ b. Holds m e t (k + 0) b) (or_false g) (subst (λ i. Holds m e t i g) z h)
carried s e t (c ∷ cs) m k g h n =
    let x = (call s m c).answer in
    let w = carried s e t cs (call s m c).machine (k + steps_made e c x) (g || finished_by e c x) (on_call s m e t k g h c (λ z. n 0 (ap Some z))) (λ i z. n (suc i) z) in
    let z : (k + steps_made e c (call s m c).answer) + steps_made_in e cs (answers_to s (call s m c).machine cs) ≡ k + (steps_made e c (call s m c).answer + steps_made_in e cs (answers_to s (call s m c).machine cs)) = omega arith in
    w ∙ (λ l. Some (held t (z l) (or_assoc g (finished_by e c (call s m c).answer) (finished_in e cs (answers_to s (call s m c).machine cs)) l)))

-- an enter that is not refused
enters_now : (s : System) (m : Machine) (e : ℕ) (t : Term) (text : List ℕ) → read_ticket s.operators text ≡ Ok t → (call s m (enter e text)).answer ≡ entered → Holds (call s m (enter e text)).machine e t 0 false
enters_now s m e t text r x = on_read (read_ticket s.operators text) r x
  where
    on_ticket : (o : Option Entry) → slice_get m.entries e ≡ o → (enter_ticket s m e t o).answer ≡ entered → Holds (enter_ticket s m e t o).machine e t 0 false
    on_ticket None q x = absurd (not_refused x)
    on_ticket (Some (held u n f)) q x = absurd (not_refused x)
    on_ticket (Some empty) q x =
        cond_both (nat_le (symbols t) (free_nodes s m)) (with_entry m e (held t 0 false) entered) (with_answer m (refused (no_room (symbols t) (free_nodes s m))))
        (λ y. y.answer ≡ entered → Holds y.machine e t 0 false) (λ p x. set_here m.entries e (held t 0 false) empty q) (λ p x. absurd (not_refused x)) x

    on_read : (o : Result Term TextFault) → o ≡ Ok t → (enter_read s m e o).answer ≡ entered → Holds (enter_read s m e o).machine e t 0 false
    on_read o r x = subst (λ o. (enter_read s m e o).answer ≡ entered → Holds (enter_read s m e o).machine e t 0 false) (sym r) (on_ticket (slice_get m.entries e) refl) x

arrives : (s : System) (e : ℕ) (t : Term) (text : List ℕ) → read_ticket s.operators text ≡ Ok t → (cs : List Call) (m : Machine) (i : ℕ) → slice_get cs i ≡ Some (enter e text) → slice_get (answers_to s m cs) i ≡ Some entered
    → ((k : ℕ) → slice_get (drop (suc i) cs) k ≡ Some (strike e) → ⊥) → Holds (after s m cs) e t (steps_made_in e (drop (suc i) cs) (drop (suc i) (answers_to s m cs))) (finished_in e (drop (suc i) cs) (drop (suc i) (answers_to s m cs)))
arrives s e t text r [] m i p q n = absurd (None_Some p)
arrives s e t text r (c ∷ cs) m zero p q n =
    let c_is : c ≡ enter e text = some_call p in
    let x = subst (λ z. (call s m z).answer ≡ entered) c_is (some_answer q) in
    let h = subst (λ z. Holds (call s m z).machine e t 0 false) (sym c_is) (enters_now s m e t text r x) in
    let w = carried s e t cs (call s m c).machine 0 false h n in
    let z : 0 + steps_made_in e cs (answers_to s (call s m c).machine cs) ≡ steps_made_in e cs (answers_to s (call s m c).machine cs) = omega arith in
    subst (λ l. Holds (after s (call s m c).machine cs) e t l (finished_in e cs (answers_to s (call s m c).machine cs))) z w
arrives s e t text r (c ∷ cs) m (suc i) p q n = arrives s e t text r cs (call s m c).machine i p q n

pub history_tells : HistoryTells
history_tells s nodes entries cs e t n f = (λ h. first (told s e t n f cs (opened nodes entries) h), back)
  where
    first : HeldSince s e cs (answers_to s (opened nodes entries) cs) t n f ⊎ Carried (opened nodes entries) e cs (answers_to s (opened nodes entries) cs) t n f → HeldSince s e cs (answers_to s (opened nodes entries) cs) t n f
    first (inl w) = w
    first (inr w) = absurd (not_empty (sym (in_replicate entries empty (held t w.steps_then w.finished_then) e w.held_then)))

    back : HeldSince s e cs (answers_to s (opened nodes entries) cs) t n f → Holds (after s (opened nodes entries) cs) e t n f
    back w = let z = sym w.steps in let y = sym w.finishes in arrives s e t w.text w.reads cs (opened nodes entries) w.earlier w.enters w.not_refused w.never_struck ∙ (λ l. Some (held t (z l) (y l)))
