-- A trace, step by step.
use Rattle.std.proofs.Common.{◌≡◌, ℕ, suc, ◌+◌, ◌<◌, ◌≤◌, List, [], ◌∷◌, ◌++◌, length, Some, None, Ok, Err, Result, sym, refl, ap, ◌∙◌, subst, arith, length-append}
use Rattle.std.specs.Result.{result_ok}
use Rattle.fixed_vec.specs.declared.Full.{Full}
use Rattle.fixed_vec.specs.FixedVec.{Added}
use Rattle.terms.specs.Term.{Term, variable, instrument, apply, Terms, nil, cons, symbols, symbols_in}
use Rattle.terms.specs.View.{Answers, Stands}
use Rattle.traversal.specs.Walks.{most_symbols}
use Rattle.traversal.specs.Rows.{row_of, StandAll, PutBefore}
use Rattle.traversal.proofs.Rows.{under, both, symbols_under, symbols_both, stands_under, from_to_all, join, length_le_symbols}
use Rattle.node_store.specs.Loading.{arguments_of, before, Visits, begin, visit}
use Rattle.node_store.specs.Tracing.{Tracing}

same_under : (t : Term) → under t ≡ arguments_of t
same_under (variable x) = refl
same_under (instrument n) = refl
same_under (apply f ts) = refl

same_before : (ts us : Terms) → both ts us ≡ before ts us
same_before nil us = refl
same_before (cons t ts) us = ap (cons t) (same_before ts us)

-- the terms of a row of places of its length
pub row_stands : (v : Answers) (p : ℕ) (t : Term) → v.argument p 3 ≡ None → Stands v p t → StandAll v (row_of v p) (arguments_of t)
row_stands v p t few s = subst (StandAll v (row_of v p)) (same_under t) (from_to_all v p 3 0 (under t) few (stands_under v p t s))

pub first_traced : (v : Answers) (t : Term) (p n : ℕ) (order stack : List ℕ) → Stands v p t → symbols t ≡ n → order ≡ [] → stack ≡ p ∷ [] → Tracing v t n 0 order stack
first_traced v t p n order stack s e o k = record {
  now = cons t nil;
  visits = subst (λ l. Visits v (cons t nil) l (cons t nil)) (sym o) begin;
  stand = subst (λ l. StandAll v l (cons t nil)) (sym k) (s, tt);
  many = ap length o;
  sum = omega arith;
}

-- one symbol further
pub traced_more : (v : Answers) (t : Term) (n k p : ℕ) (order stack rest : List ℕ) → stack ≡ p ∷ rest → v.argument p 3 ≡ None → Tracing v t n k order stack → Tracing v t n (k + 1) (p ∷ order) (row_of v p ++ rest)
traced_more v t n k p order stack rest e few w = go w.now w.visits (subst (λ l. StandAll v l w.now) e w.stand) w.sum
  where
    go : (now : Terms) → Visits v (cons t nil) order now → StandAll v (p ∷ rest) now → k + symbols_in now ≡ n → Tracing v t n (k + 1) (p ∷ order) (row_of v p ++ rest)
    go nil x s z = absurd s
    go (cons u us) x s z =
        let sum = symbols_both (under u) us in
        let one = symbols_under u in
        let y : before (arguments_of u) us ≡ both (under u) us = sym (same_before (arguments_of u) us) ∙ ap (λ ts. both ts us) (sym (same_under u)) in
        record {
          now = before (arguments_of u) us;
          visits = visit x s.0 refl;
          stand = subst (StandAll v (row_of v p ++ rest)) (sym y) (join v (row_of v p) rest (under u) us (from_to_all v p 3 0 (under u) few (stands_under v p u s.0)) s.1);
          many = ap suc w.many ∙ omega arith;
          sum = omega (arith, ap symbols_in y);
        }

pub trace_step : (v : Answers) (t : Term) (n k p : ℕ) (order stack rest order′ stack′ : List ℕ) → stack ≡ p ∷ rest → v.argument p 3 ≡ None → order′ ≡ p ∷ order → stack′ ≡ row_of v p ++ rest → Tracing v t n k order stack → Tracing v t n (k + 1) order′ stack′
trace_step v t n k p order stack rest order′ stack′ e few o s w =
    subst (λ l. Tracing v t n (k + 1) l stack′) (sym o) (subst (Tracing v t n (k + 1) (p ∷ order)) (sym s) (traced_more v t n k p order stack rest e few w))

-- there is room for the row of a place
pub trace_room : (v : Answers) (t : Term) (n k p : ℕ) (order stack rest : List ℕ) → stack ≡ p ∷ rest → v.argument p 3 ≡ None → n ≤ most_symbols → Tracing v t n k order stack → most_symbols < length (row_of v p) + length rest → ⊥
trace_room v t n k p order stack rest e few small w more =
    let x = traced_more v t n k p order stack rest e few w in
    omega (arith, length_le_symbols v (row_of v p ++ rest) x.now x.stand, x.sum, length-append (row_of v p) rest)

-- something is left until all is visited
pub trace_left : (v : Answers) (t : Term) (n k : ℕ) (order stack : List ℕ) → k < n → stack ≡ [] → Tracing v t n k order stack → ⊥
trace_left v t n k order stack less e w = go w.now (subst (λ l. StandAll v l w.now) e w.stand) w.sum
  where
    go : (now : Terms) → StandAll v [] now → k + symbols_in now ≡ n → ⊥
    go nil s z = omega arith
    go (cons u us) s z = s

pub trace_end : (v : Answers) (t : Term) (n k : ℕ) (order stack : List ℕ) → n ≤ k → Tracing v t n k order stack → Visits v (cons t nil) order nil × (length order ≡ n)
trace_end v t n k order stack all w = (go w.now w.visits w.sum, omega (arith, w.many, w.sum))
  where
    go : (now : Terms) → Visits v (cons t nil) order now → k + symbols_in now ≡ n → Visits v (cons t nil) order nil
    go nil x z = x
    go (cons u us) x z = absurd (let y : ⊥ = omega (arith, symbols_under u) in y)

pub small : (n : ℕ) → n ≤ most_symbols → n ≤ 16384
unfolding most_symbols
small n h = h

-- what a push says
pub not_added : (r : Result (Unit {0}) Full) (N : ℕ) (old : List ℕ) (x : ℕ) (new : List ℕ) → None ≡ result_ok r → Added N old x new r → N ≤ length old
not_added (Ok u) N old x new e a = let z : ◌≡◌ {A = ℕ} 0 1 = cc in absurd (let y : ⊥ = omega arith in y)
not_added (Err e) N old x new z a = a.1

pub was_added : (r : Result (Unit {0}) Full) (N : ℕ) (old : List ℕ) (x : ℕ) (new : List ℕ) (u : Unit {0}) → Some u ≡ result_ok r → Added N old x new r → new ≡ x ∷ old
was_added (Ok v) N old x new u e a = a
was_added (Err e) N old x new u z a = let z : ◌≡◌ {A = ℕ} 0 1 = cc in absurd (let y : ⊥ = omega arith in y)

pub not_put : (r : Result (Unit {0}) Full) (row old new : List ℕ) → None ≡ result_ok r → PutBefore row old new r → most_symbols < length row + length old
not_put (Ok u) row old new e a = let z : ◌≡◌ {A = ℕ} 0 1 = cc in absurd (let y : ⊥ = omega arith in y)
not_put (Err e) row old new z a = a

pub was_put : (r : Result (Unit {0}) Full) (row old new : List ℕ) (u : Unit {0}) → Some u ≡ result_ok r → PutBefore row old new r → new ≡ row ++ old
was_put (Ok v) row old new u e a = a
was_put (Err e) row old new u z a = let z : ◌≡◌ {A = ℕ} 0 1 = cc in absurd (let y : ⊥ = omega arith in y)
