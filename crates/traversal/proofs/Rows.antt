-- Terms at the places of a stack.
use Rattle.std.proofs.Common.{◌≡◌, ℕ, zero, suc, ◌+◌, ◌<◌, ◌≤◌, List, [], ◌∷◌, ◌++◌, length, Some, None, Option, sym, refl, ap, ◌∙◌, subst, add-zero, add-one, slice_index_or, drop, drop-cons, arith}
use Rattle.terms.specs.declared.symbol.Symbol.{Symbol}
use Rattle.terms.specs.declared.symbol.Symbol.TheVariants.{Variable, Instrument, Operator}
use Rattle.terms.specs.Term.{Term, variable, instrument, apply, Terms, nil, cons, how_many, symbols, symbols_in}
use Rattle.terms.specs.View.{Answers, Stands, StandFrom}
use Rattle.traversal.specs.Rows.{ahead, row_from, row_of, StandAll, Many}
use Rattle.traversal.proofs.Slots.{filled}
use Rattle.std.specs.List.{cons_option}

pub never : {X : Type 0} (o : Option X) (x : X) → o ≡ None → o ≡ Some x → ⊥
never o x e h = let z : ◌≡◌ {A = ℕ} 0 1 = cc in omega arith

-- the symbol of a term, and its arguments
abbrev pub top : Term → Symbol
top (variable x) = Variable x
top (instrument n) = Instrument n
top (apply f ts) = Operator f

abbrev pub under : Term → Terms
under (variable x) = nil
under (instrument n) = nil
under (apply f ts) = ts

abbrev pub both : Terms → Terms → Terms
both nil us = us
both (cons t ts) us = cons t (both ts us)

pub symbols_under : (t : Term) → symbols t ≡ suc (symbols_in (under t))
symbols_under (variable x) = refl
symbols_under (instrument n) = refl
symbols_under (apply f ts) = refl

pub symbols_both : (ts us : Terms) → symbols_in (both ts us) ≡ symbols_in ts + symbols_in us
symbols_both nil us = omega arith
symbols_both (cons t ts) us = let ih = symbols_both ts us in omega arith

pub stands_top : (v : Answers) (p : ℕ) (t : Term) → Stands v p t → v.symbol p ≡ Some (top t)
stands_top v p (variable x) s = s.0
stands_top v p (instrument n) s = s.0
stands_top v p (apply f ts) s = s.0

pub stands_under : (v : Answers) (p : ℕ) (t : Term) → Stands v p t → StandFrom v p 0 (under t)
stands_under v p (variable x) s = s.1
stands_under v p (instrument n) s = s.1
stands_under v p (apply f ts) s = s.1

-- the arguments of a place, and the terms at the places of its row
pub from_to_all : (v : Answers) (p n k : ℕ) (ts : Terms) → v.argument p (k + n) ≡ None → StandFrom v p k ts → StandAll v (row_from v p k n) ts
from_to_all v p zero k nil e s = tt
from_to_all v p zero k (cons t ts) e s = absurd (never (v.argument p k) s.0 (ap (v.argument p) (sym (add-zero k)) ∙ e) s.1)
from_to_all v p (suc n) k nil e s = subst (λ o. StandAll v (ahead o (row_from v p (suc k) n)) nil) (sym s) tt
from_to_all v p (suc n) k (cons t ts) e s =
    subst (λ o. StandAll v (ahead o (row_from v p (suc k) n)) (cons t ts)) (sym s.1)
    (s.2, from_to_all v p n (suc k) ts (ap (v.argument p) (omega arith) ∙ e) s.3)

-- one step of the converse
next_from : (v : Answers) (p k : ℕ) (row : List ℕ) (o : Option ℕ) → v.argument p k ≡ o → ((us : Terms) → StandAll v row us → StandFrom v p (suc k) us) → (ts : Terms) → StandAll v (ahead o row) ts → StandFrom v p k ts
next_from v p k row None h more nil s = h
next_from v p k row None h more (cons t ts) s = absurd s
next_from v p k row (Some q) h more nil s = absurd s
next_from v p k row (Some q) h more (cons t ts) s = (q, h, s.0, more ts s.1)

pub all_to_from : (v : Answers) (p n k : ℕ) (ts : Terms) → v.argument p (k + n) ≡ None → StandAll v (row_from v p k n) ts → StandFrom v p k ts
all_to_from v p zero k nil e s = ap (v.argument p) (sym (add-zero k)) ∙ e
all_to_from v p zero k (cons t ts) e s = absurd s
all_to_from v p (suc n) k ts e s =
    next_from v p k (row_from v p (suc k) n) (v.argument p k) refl (λ us. all_to_from v p n (suc k) us (ap (v.argument p) (omega arith) ∙ e)) ts s

-- terms at two rows of places
pub join : (v : Answers) (ps qs : List ℕ) (ts us : Terms) → StandAll v ps ts → StandAll v qs us → StandAll v (ps ++ qs) (both ts us)
join v [] qs nil us a b = b
join v [] qs (cons t ts) us a b = absurd a
join v (p ∷ ps) qs nil us a b = absurd a
join v (p ∷ ps) qs (cons t ts) us a b = (a.0, join v ps qs ts us a.1 b)

pub split : (v : Answers) (ps qs : List ℕ) (ws : Terms) → StandAll v (ps ++ qs) ws → (ts : Terms) × (us : Terms) × (ws ≡ both ts us) × StandAll v ps ts × StandAll v qs us
split v [] qs ws s = (nil, ws, refl, tt, s)
split v (p ∷ ps) qs nil s = absurd s
split v (p ∷ ps) qs (cons t ws) s =
    let r = split v ps qs ws s.1 in
    (cons t r.0, r.1, ap (cons t) r.2, (s.0, r.3), r.4)

-- as many terms as places
pub same_length : (v : Answers) (ps : List ℕ) (ts : Terms) → StandAll v ps ts → length ps ≡ how_many ts
same_length v [] nil s = refl
same_length v [] (cons t ts) s = absurd s
same_length v (p ∷ ps) nil s = absurd s
same_length v (p ∷ ps) (cons t ts) s = ap suc (same_length v ps ts s.1)

-- a term has a symbol at least
pub length_le_symbols : (v : Answers) (ps : List ℕ) (ts : Terms) → StandAll v ps ts → length ps ≤ symbols_in ts
length_le_symbols v [] nil s = omega arith
length_le_symbols v [] (cons t ts) s = absurd s
length_le_symbols v (p ∷ ps) nil s = absurd s
length_le_symbols v (p ∷ ps) (cons t ts) s =
    let ih = length_le_symbols v ps ts s.1 in
    let one = symbols_under t in
    omega arith

-- the arguments in the place of their term
pub opened : (v : Answers) (p : ℕ) (before : List ℕ) (m : ℕ) → v.argument p 3 ≡ None → Many v (p ∷ before) m → (k : ℕ) × (m ≡ suc k) × Many v (row_of v p ++ before) k
opened v p before m few (nil, s, e) = absurd s
opened v p before m few (cons t ts, s, e) =
    let row = from_to_all v p 3 0 (under t) few (stands_under v p t s.0) in
    let one = symbols_under t in
    (symbols_in (under t) + symbols_in ts, omega arith, (both (under t) ts, join v (row_of v p) before (under t) ts row s.1, symbols_both (under t) ts))

-- an operator in the place of its arguments
pub closed : (v : Answers) (p f : ℕ) (before : List ℕ) (m : ℕ) → v.symbol p ≡ Some (Operator f) → v.argument p 3 ≡ None → Many v (row_of v p ++ before) m → Many v (p ∷ before) (suc m)
closed v p f before m is few (ws, s, e) =
    let r = split v (row_of v p) before ws s in
    let sum = symbols_both r.0 r.1 in
    let all = ap symbols_in r.2 in
    (cons (apply f r.0) r.1, ((is, all_to_from v p 3 0 r.0 few r.3), r.4), omega arith)

-- where no argument is given, the row is empty
pub row_none : (v : Answers) (p : ℕ) → v.argument p 0 ≡ None → row_of v p ≡ []
row_none v p e = ap (λ o. ahead o (row_from v p 1 2)) e

-- a row of at most three has so many places
ahead_short : (o : Option ℕ) (ps : List ℕ) (n : ℕ) → length ps ≤ n → length (ahead o ps) ≤ suc n
ahead_short None ps n h = omega arith
ahead_short (Some q) ps n h = omega arith

pub row_short : (v : Answers) (p n k : ℕ) → length (row_from v p k n) ≤ n
row_short v p zero k = omega arith
row_short v p (suc n) k = ahead_short (v.argument p k) (row_from v p (suc k) n) n (row_short v p n (suc k))

pub filled_more : (os : List (Option ℕ)) (i : ℕ) (o : Option ℕ) (ps qs t : List ℕ) → i < length os → slice_index_or os i None ≡ o → qs ≡ cons_option o ps → filled (drop i os) ps ≡ t → filled (drop (i + 1) os) qs ≡ t
filled_more os i o ps qs t h is put e =
    ap (filled (drop (i + 1) os)) (put ∙ ap (λ x. cons_option x ps) (sym is))
    ∙ sym (ap (λ l. filled l ps) (drop-cons os i None h ∙ ap (λ k. slice_index_or os i None ∷ drop k os) (sym (add-one i))))
    ∙ e

pub filled_long : (os : List (Option ℕ)) (ps : List ℕ) → length ps ≤ length (filled os ps)
filled_long [] ps = omega arith
filled_long (None ∷ os) ps = filled_long os ps
filled_long (Some p ∷ os) ps = let ih = filled_long os (p ∷ ps) in omega arith
