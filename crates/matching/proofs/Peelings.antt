-- A pattern that is peeled off: its parts beside their places, the rows of its variables, and how many nodes these have.
use Rattle.std.proofs.Common.{◌≡◌, ℕ, zero, suc, ◌+◌, ◌<◌, ◌==◌, cond, Bool, true, false, ◌||◌, List, [], ◌∷◌, ◌++◌, append_assoc, append-nil, length, get_or, Option, refl, sym, ap, ◌∙◌, subst, arith}
use Rattle.std.proofs.lemmas.Bool.{false≢true}
use Rattle.terms.specs.declared.symbol.Symbol.{Symbol}
use Rattle.terms.specs.Term.{Term, variable, instrument, apply, Terms, cons}
use Rattle.rewriting.specs.Bindings.{Bindings, bound}
use Rattle.node_store.specs.Placed.{Placed, none, at, IsTerm}
use Rattle.node_store.specs.Grafting.{Sub, here, under, later}
use Rattle.node_store.specs.Work.{size_all}
use Rattle.compiled.specs.Symbols.{parts_of, has_variable, is_variable, home, plain}
use Rattle.matching.specs.Peeling.{Peels, done, end, bind, leaf, under as inside, Peeled}

-- the parts of some rows
abbrev pub all_parts : List Terms → List Term
all_parts [] = []
all_parts (ts ∷ tss) = parts_of ts ++ all_parts tss

-- what stands in these rows stands in the row
abbrev pub Within : Placed → List Placed → Type 0
Within w [] = Unit {0}
Within w (q ∷ qs) = ((p : ℕ) (s : Option Symbol) (ks : Placed) → Sub p s ks q → Sub p s ks w) × Within w qs

-- the parts of a pattern, the place of each, and for each variable the row of what it is bound to, which stands in a row
pub data Beside (w : Placed) : List Term → List ℕ → List Placed → Bindings → Type 0 where
  nothing : Beside w [] [] [] []
  bound_part : {x q : ℕ} {s : Option Symbol} {ks : Placed} {t : Term} {ts : List Term} {ps : List ℕ} {kept : List Placed} {m : Bindings}
      → Sub q s ks w → IsTerm s ks t → Beside w ts ps kept m → Beside w (variable x ∷ ts) (q ∷ ps) (at q s ks none ∷ kept) ((x, t) ∷ m)
  leaf_part : {n q : ℕ} {ts : List Term} {ps : List ℕ} {kept : List Placed} {m : Bindings} → Beside w ts ps kept m → Beside w (instrument n ∷ ts) (q ∷ ps) kept m
  node_part : {f q : ℕ} {us : Terms} {ts : List Term} {ps : List ℕ} {kept : List Placed} {m : Bindings} → Beside w ts ps kept m → Beside w (apply f us ∷ ts) (q ∷ ps) kept m

-- the arguments of an operator before what follows it
parts_split : (f : ℕ) (fs ts : Terms) (pss : List Terms) → all_parts (cons (apply f fs) ts ∷ pss) ≡ apply f fs ∷ all_parts (fs ∷ (ts ∷ pss))
parts_split f fs ts pss = ap (λ l. apply f fs ∷ l) (append_assoc (parts_of fs) (parts_of ts) (all_parts pss))

pub beside : (w : Placed) {pss : List Terms} {qs : List Placed} {ps : List ℕ} {kept : List Placed} {m : Bindings} → Peels pss qs ps kept m → Within w qs → Beside w (all_parts pss) ps kept m
beside w done i = nothing
beside w (end r) i = beside w r i.1
beside w (bind {q = q} {s = s} {ks = ks} a r) i = bound_part (i.0 q s ks here) a (beside w r (λ p t js x. i.0 p t js (later x), i.1))
beside w (leaf r) i = leaf_part (beside w r (λ p t js x. i.0 p t js (later x), i.1))
beside w (inside {f = f} {q = q} {fs = fs} {ts = ts} {pss = pss} {ps = ps} {kept = kept} {m = m} r) i =
    subst (λ l. Beside w l (q ∷ ps) kept m) (sym (parts_split f fs ts pss)) (node_part (beside w r (λ p t js x. i.0 p t js (under x), (λ p t js x. i.0 p t js (later x), i.1))))

pub peeled_beside : {left : Terms} {ks : Placed} {ps : List ℕ} {kept : List Placed} {m : Bindings} → Peeled left ks ps kept m → Beside ks (parts_of left) ps kept m
peeled_beside {left = left} {ks = ks} {ps = ps} {kept = kept} {m = m} r = subst (λ l. Beside ks l ps kept m) (append-nil (parts_of left)) (beside ks r (λ p s js x. x, tt))

-- each part has a place
pub as_many : {w : Placed} {ts : List Term} {ps : List ℕ} {kept : List Placed} {m : Bindings} → Beside w ts ps kept m → length ps ≡ length ts
as_many nothing = refl
as_many (bound_part x a r) = ap suc (as_many r)
as_many (leaf_part r) = ap suc (as_many r)
as_many (node_part r) = ap suc (as_many r)

-- the row of a variable stands among the rows, it begins at the place of the number at which the variable stands first, and it is what the variable is bound to
pub record KeptAt (w : Placed) (ts : List Term) (ps : List ℕ) (kept : List Placed) (m : Bindings) (x : ℕ) : Type 0 where
  pub symbol : Option Symbol
  pub row : Placed
  pub earlier : List Placed
  pub later : List Placed
  pub low : home x ts < length ps
  pub rows : kept ≡ earlier ++ at (get_or ps (home x ts) 0) symbol row none ∷ later
  pub stands : Sub (get_or ps (home x ts) 0) symbol row w
  pub is : IsTerm symbol row (bound m x)

-- the same with a part before that is another symbol, and a row before
kept_behind : {w : Placed} {ts : List Term} {ps : List ℕ} {kept : List Placed} {m : Bindings} {x : ℕ} (t : Term) (q : ℕ) → is_variable x t ≡ false → KeptAt w ts ps kept m x → KeptAt w (t ∷ ts) (q ∷ ps) kept m x
kept_behind {w = w} {ts = ts} {ps = ps} {kept = kept} {m = m} {x = x} t q e k =
    let h : home x (t ∷ ts) ≡ suc (home x ts) = ap (λ b. cond b zero (suc (home x ts))) e in
    record {
      symbol = k.symbol;
      row = k.row;
      earlier = k.earlier;
      later = k.later;
      low = omega (arith, k.low);
      rows = k.rows ∙ ap (λ n. k.earlier ++ at (get_or (q ∷ ps) n 0) k.symbol k.row none ∷ k.later) (sym h);
      stands = subst (λ n. Sub (get_or (q ∷ ps) n 0) k.symbol k.row w) (sym h) k.stands;
      is = k.is;
    }

pub kept_at : {w : Placed} {ts : List Term} {ps : List ℕ} {kept : List Placed} {m : Bindings} → Beside w ts ps kept m → (x : ℕ) → has_variable x ts ≡ true → KeptAt w ts ps kept m x
kept_at nothing x h = absurd (false≢true cc)
kept_at (leaf_part {n = n} {q = q} r) x h = kept_behind (instrument n) q refl (kept_at r x h)
kept_at (node_part {f = f} {q = q} {us = us} r) x h = kept_behind (apply f us) q refl (kept_at r x h)
kept_at {w = w} (bound_part {x = y} {q = q} {s = s} {ks = ks} {t = t} {ts = ts} {ps = ps} {kept = kept} {m = m} i a r) x h = go (kept_at r x) (x == y) refl h
  where
    go : (has_variable x ts ≡ true → KeptAt w ts ps kept m x) → (b : Bool) → (x == y) ≡ b → (b || has_variable x ts) ≡ true → KeptAt w (variable y ∷ ts) (q ∷ ps) (at q s ks none ∷ kept) ((y, t) ∷ m) x
    go more true e h =
        let z : home x (variable y ∷ ts) ≡ 0 = ap (λ b. cond b zero (suc (home x ts))) e in
        record {
          symbol = s;
          row = ks;
          earlier = [];
          later = kept;
          low = omega arith;
          rows = ap (λ n. at (get_or (q ∷ ps) n 0) s ks none ∷ kept) (sym z);
          stands = subst (λ n. Sub (get_or (q ∷ ps) n 0) s ks w) (sym z) i;
          is = subst (λ b. IsTerm s ks (cond b t (bound m x))) (sym e) a;
        }
    go more false e h =
        let k = kept_behind (variable y) q e (more h) in
        record {
          symbol = k.symbol;
          row = k.row;
          earlier = at q s ks none ∷ k.earlier;
          later = k.later;
          low = k.low;
          rows = ap (λ l. at q s ks none ∷ l) k.rows;
          stands = k.stands;
          is = subst (λ b. IsTerm k.symbol k.row (cond b t (bound m x))) (sym e) k.is;
        }

-- the nodes of the rows are one for each part that is no variable, and those of the rows of the variables
pub peeled_sizes : {pss : List Terms} {qs : List Placed} {ps : List ℕ} {kept : List Placed} {m : Bindings} → Peels pss qs ps kept m → size_all qs ≡ plain (all_parts pss) + size_all kept
peeled_sizes done = refl
peeled_sizes (end r) = let h = peeled_sizes r in omega arith
peeled_sizes (bind r a) = let h = peeled_sizes a in omega arith
peeled_sizes (leaf r) = let h = peeled_sizes r in omega arith
peeled_sizes (inside {f = f} {fs = fs} {ts = ts} {pss = pss} r) = let h = peeled_sizes r in let e = ap plain (parts_split f fs ts pss) in omega arith
