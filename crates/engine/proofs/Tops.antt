-- The first visit of a stack: to what it is, and what is left to search after it.
use Rattle.std.proofs.Common.{◌≡◌, refl, sym, ◌∙◌, ap, subst, List, ◌∷◌, ℕ, suc, ◌+◌, ◌*◌, ◌<◌, ◌≤◌, get_or, length, Option, arith}
use Rattle.std.proofs.Math.Option.{none as nothing, some}
use Rattle.terms.specs.declared.node.Node.{Node}
use Rattle.terms.specs.declared.symbol.Symbol.{Symbol}
use Rattle.terms.specs.Term.{Term, variable, instrument, apply, Terms, nil, cons, how_many, symbols, symbols_in}
use Rattle.terms.specs.Nodes.{vacant}
use Rattle.terms.specs.Rule.{Rule}
use Rattle.rewriting.specs.Next.{contracted, next, next_in}
use Rattle.node_store.specs.Placed.{Placed, none, at, link, Holds, occ, size, IsTerm, AreTerms}
use Rattle.node_store.specs.Loading.{arguments_of}
use Rattle.node_store.specs.Grafting.{graft, Sub, here, under, later}
use Rattle.node_store.proofs.Grafts.{sub_occ, graft-here, graft-there, graft-none}
use Rattle.engine.specs.declared.visits.Visit.{Visit}
use Rattle.engine.specs.declared.visits.Visit.TheVariants.{Fresh, Reached}
use Rattle.engine.specs.Searched.{ahead, Idle, Searched, through, fresh, reached, idle, settled, Renewed, quiet, again}
use Rattle.engine.proofs.Nexts.{next_whole, next_inside, next_first, next_later, none_row}

no_sub : {p : ℕ} {s : Option Symbol} {ks : Placed} → Sub p s ks none → ⊥
no_sub x = elim x [ ]

pub arguments_are : (s : Option Symbol) (ks : Placed) (t : Term) → IsTerm s ks t → AreTerms ks (arguments_of t)
arguments_are s ks (variable x) a = subst (λ k. AreTerms k nil) (sym a.1) tt
arguments_are s ks (instrument n) a = subst (λ k. AreTerms k nil) (sym a.1) tt
arguments_are s ks (apply f ts) a = a.2

-- ---- what a first visit is to

-- a row that begins at a place: its first node is visited after its arguments and before its siblings, or not at all if no rule matches there
pub record Opening (rules : List Rule) (q : Placed) (ts : Terms) (n : ℕ) (xs : List Visit) (i : ℕ) (rest : List Visit) : Type 0 where
  pub symbol : Option Symbol
  pub under : Placed
  pub others : Placed
  pub node : (ns : List Node) → Holds ns q → get_or ns i vacant ≡ record { symbol = symbol; first = link under; next = link others }
  pub visit : (k : ℕ) × (k < n) × Searched rules q ts k (ahead (link under) (Reached i ∷ ahead (link others) rest)) xs
  pub pass : Idle rules symbol → (k : ℕ) × (k < n) × Searched rules q ts k (ahead (link under) (ahead (link others) rest)) xs

-- the next step is at the node, and after it the node is searched again as far as it is new
pub record Onward (rules : List Rule) (q : Placed) (ts : Terms) (xs : List Visit) (p : ℕ) (rest : List Visit) (part u : Term) : Type 0 where
  pub terms : Terms
  pub next : next_in rules ts ≡ some terms
  pub many : how_many terms ≡ how_many ts
  pub change : symbols_in terms + symbols part ≡ symbols_in ts + symbols u
  pub after : (s : Option Symbol) (a : Placed) (ws : List Visit) → IsTerm s a u → Renewed rules p a u ws rest → AreTerms (graft p s a q) terms × ((k : ℕ) × Searched rules (graft p s a q) terms k ws xs)

-- a node whose arguments have no next step: the step is here or the visit is done
pub record Found (rules : List Rule) (q : Placed) (ts : Terms) (n : ℕ) (xs : List Visit) (p : ℕ) (rest : List Visit) : Type 0 where
  pub symbol : Option Symbol
  pub below : Placed
  pub part : Term
  pub sub : Sub p symbol below q
  pub is : IsTerm symbol below part
  pub done : next_in rules (arguments_of part) ≡ nothing
  pub pass : contracted rules part ≡ nothing → (k : ℕ) × (k < n) × Searched rules q ts k rest xs
  pub step : (u : Term) → contracted rules part ≡ some u → Onward rules q ts xs p rest part u

pub data Top (rules : List Rule) (q : Placed) (ts : Terms) (n : ℕ) : List Visit → List Visit → Type 0 where
  silent : {vs : List Visit} → next_in rules ts ≡ nothing → Top rules q ts n vs vs
  row : {i : ℕ} {rest xs : List Visit} → Opening rules q ts n xs i rest → Top rules q ts n (Fresh i ∷ rest) xs
  node : {p : ℕ} {rest xs : List Visit} → Found rules q ts n xs p rest → Top rules q ts n (Reached p ∷ rest) xs

-- ---- at the first node of the row

module _ (rules : List Rule) where
  -- a row that is looked at
  pub whole_row : (q : Placed) (ts : Terms) (vs : List Visit) → AreTerms q ts → Searched rules q ts (2 * size q) (ahead (link q) vs) vs
  whole_row none nil vs a = through
  whole_row none (cons t ts) vs a = absurd a
  whole_row (at i s ks us) ts vs a = fresh

  module _ (i : ℕ) (s : Option Symbol) (ks us : Placed) (t : Term) (ts : Terms) (is : IsTerm s ks t) (are : AreTerms us ts) where
    opened : (vs : List Visit) → Opening rules (at i s ks us) (cons t ts) (2 * size (at i s ks us)) vs i vs
    opened vs = record {
      symbol = s;
      under = ks;
      others = us;
      node = λ ns h. h.1;
      visit = (2 * size ks + suc (2 * size us), omega arith, reached (whole_row ks (arguments_of t) (Reached i ∷ ahead (link us) vs) (arguments_are s ks t is)) (whole_row us ts vs are));
      pass = λ z. (2 * size ks + 2 * size us, omega arith, idle z (whole_row ks (arguments_of t) (ahead (link us) vs) (arguments_are s ks t is)) (whole_row us ts vs are));
    }

    found_here : (n m : ℕ) {ws xs : List Visit} → next_in rules (arguments_of t) ≡ nothing → Searched rules us ts m ws xs → Found rules (at i s ks us) (cons t ts) (n + suc m) xs i ws
    found_here n m {ws} {xs} w e = record {
      symbol = s;
      below = ks;
      part = t;
      sub = here;
      is = is;
      done = w;
      pass = λ z. (m, omega arith, settled (next_whole rules t w ∙ z) e);
      step = λ u z. record {
        terms = cons u ts;
        next = next_first rules t u ts (next_whole rules t w ∙ z);
        many = refl;
        change = omega arith;
        after = λ c a vs x r.
            let g = sym (graft-here i c a i s ks us refl) in
            (subst (λ q. AreTerms q (cons u ts)) g (x, are), subst (λ q. (k : ℕ) × Searched rules q (cons u ts) k vs xs) g (renewed c a u vs r));
      };
    }
      where
        renewed : (c : Option Symbol) (a : Placed) (u : Term) (vs : List Visit) → Renewed rules i a u vs ws → (k : ℕ) × Searched rules (at i c a us) (cons u ts) k vs xs
        renewed c a u vs (quiet z) = (m, settled z e)
        renewed c a u vs (again {n = k} d) = (k + suc m, reached d e)

-- ---- further down, and further on

module _ (rules : List Rule) (i : ℕ) (s : Option Symbol) (us : Placed) (ts : Terms) (ys xs : List Visit) (c : ℕ)
    (wrap : (ks : Placed) (t : Term) (k : ℕ) (vs : List Visit) → Searched rules ks (arguments_of t) k vs ys → Searched rules (at i s ks us) (cons t ts) (k + c) vs xs) where
  -- below the first node of the row
  opening_below : (n : ℕ) (ks : Placed) (t : Term) (j : ℕ) (rest : List Visit) → Opening rules ks (arguments_of t) n ys j rest → Opening rules (at i s ks us) (cons t ts) (n + c) xs j rest
  opening_below n ks t j rest o = record {
    symbol = o.symbol;
    under = o.under;
    others = o.others;
    node = λ ns h. o.node ns h.2;
    visit = let (k, l, d) = o.visit in (k + c, omega arith, wrap ks t k (ahead (link o.under) (Reached j ∷ ahead (link o.others) rest)) d);
    pass = λ z. let (k, l, d) = o.pass z in (k + c, omega arith, wrap ks t k (ahead (link o.under) (ahead (link o.others) rest)) d);
  }

  found_below : (n : ℕ) (ks : Placed) (t : Term) (p : ℕ) (rest : List Visit) → IsTerm s ks t → AreTerms us ts → ((j : ℕ) → occ j (at i s ks us) ≤ 1) → Found rules ks (arguments_of t) n ys p rest → Found rules (at i s ks us) (cons t ts) (n + c) xs p rest
  found_below n ks (variable x) p rest is are once f = absurd (no_sub (subst (Sub p f.symbol f.below) is.1 f.sub))
  found_below n ks (instrument x) p rest is are once f = absurd (no_sub (subst (Sub p f.symbol f.below) is.1 f.sub))
  found_below n ks (apply g vs) p rest is are once f = record {
    symbol = f.symbol;
    below = f.below;
    part = f.part;
    sub = under f.sub;
    is = f.is;
    done = f.done;
    pass = λ z. let (k, l, d) = f.pass z in (k + c, omega arith, wrap ks (apply g vs) k rest d);
    step = λ u z. onward u (f.step u z);
  }
    where
      there : (e : Option Symbol) (a : Placed) → at i s (graft p e a ks) us ≡ graft p e a (at i s ks us)
      there e a =
          let o = once p in
          let m = sub_occ f.sub in
          sym (graft-there p e a i s ks us (omega arith) ∙ ap (at i s (graft p e a ks)) (graft-none p e a us (omega arith)))

      onward : (u : Term) → Onward rules ks vs ys p rest f.part u → Onward rules (at i s ks us) (cons (apply g vs) ts) xs p rest f.part u
      onward u o =
          let m = o.change in
          record {
            terms = cons (apply g o.terms) ts;
            next = next_first rules (apply g vs) (apply g o.terms) ts (next_inside rules g vs o.terms o.next);
            many = refl;
            change = omega arith;
            after = λ e a ws x r.
                let (j, (k, d)) = o.after e a ws x r in
                (subst (λ q. AreTerms q (cons (apply g o.terms) ts)) (there e a) ((is.0, (let v = o.many in omega (arith, is.1)), j), are), subst (λ q. (k : ℕ) × Searched rules q (cons (apply g o.terms) ts) k ws xs) (there e a) (k + c, wrap (graft p e a ks) (apply g o.terms) k ws d));
          }

module _ (rules : List Rule) (i : ℕ) (s : Option Symbol) (ks us : Placed) (t : Term) (ts : Terms) (xs : List Visit) (z : next rules t ≡ nothing) (is : IsTerm s ks t) (once : (j : ℕ) → occ j (at i s ks us) ≤ 1) (n c : ℕ) where
  -- behind the first term of the row, which has no next step
  opening_later : (j : ℕ) (rest : List Visit) → Opening rules us ts n xs j rest → Opening rules (at i s ks us) (cons t ts) (c + n) xs j rest
  opening_later j rest o = record {
    symbol = o.symbol;
    under = o.under;
    others = o.others;
    node = λ ns h. o.node ns h.3;
    visit = let (k, l, d) = o.visit in (k, omega arith, settled z d);
    pass = λ w. let (k, l, d) = o.pass w in (k, omega arith, settled z d);
  }

  found_later : (p : ℕ) (rest : List Visit) → Found rules us ts n xs p rest → Found rules (at i s ks us) (cons t ts) (c + n) xs p rest
  found_later p rest f = record {
    symbol = f.symbol;
    below = f.below;
    part = f.part;
    sub = later f.sub;
    is = f.is;
    done = f.done;
    pass = λ w. let (k, l, d) = f.pass w in (k, omega arith, settled z d);
    step = λ u w. onward u (f.step u w);
  }
    where
      there : (e : Option Symbol) (a : Placed) → at i s ks (graft p e a us) ≡ graft p e a (at i s ks us)
      there e a =
          let o = once p in
          let m = sub_occ f.sub in
          sym (graft-there p e a i s ks us (omega arith) ∙ ap (λ v. at i s v (graft p e a us)) (graft-none p e a ks (omega arith)))

      onward : (u : Term) → Onward rules us ts xs p rest f.part u → Onward rules (at i s ks us) (cons t ts) xs p rest f.part u
      onward u o =
          let m = o.change in
          record {
            terms = cons t o.terms;
            next = next_later rules t ts o.terms z o.next;
            many = ap suc o.many;
            change = omega arith;
            after = λ e a ws x r.
                let (j, (k, d)) = o.after e a ws x r in
                (subst (λ q. AreTerms q (cons t o.terms)) (there e a) (is, j), subst (λ q. (k : ℕ) × Searched rules q (cons t o.terms) k ws xs) (there e a) (k, settled z d));
          }

  top_later : (vs : List Visit) → Top rules us ts n vs xs → Top rules (at i s ks us) (cons t ts) (c + n) vs xs
  top_later vs (silent w) = silent (none_row rules t ts z w)
  top_later vs (row {i = j} {rest = rest} o) = row (opening_later j rest o)
  top_later vs (node {p = p} {rest = rest} f) = node (found_later p rest f)

-- ---- the first visit

module _ (rules : List Rule) where
  top_below : (i : ℕ) (s : Option Symbol) (ks us : Placed) (t : Term) (ts : Terms) (n m : ℕ) (vs ws xs : List Visit) → IsTerm s ks t → AreTerms us ts → ((j : ℕ) → occ j (at i s ks us) ≤ 1) → Searched rules us ts m ws xs → Top rules ks (arguments_of t) n vs (Reached i ∷ ws) → Top rules (at i s ks us) (cons t ts) (n + suc m) vs xs
  top_below i s ks us t ts n m vs ws xs is are once e (silent w) = node (found_here rules i s ks us t ts is are n m w e)
  top_below i s ks us t ts n m vs ws xs is are once e (row {i = j} {rest = rest} o) = row (opening_below rules i s us ts (Reached i ∷ ws) xs (suc m) (λ _ _ _ _ d. reached d e) n ks t j rest o)
  top_below i s ks us t ts n m vs ws xs is are once e (node {p = p} {rest = rest} f) = node (found_below rules i s us ts (Reached i ∷ ws) xs (suc m) (λ _ _ _ _ d. reached d e) n ks t p rest is are once f)

  top_idle : (i : ℕ) (s : Option Symbol) (ks us : Placed) (t : Term) (ts : Terms) (n m : ℕ) (vs ws xs : List Visit) → Idle rules s → IsTerm s ks t → AreTerms us ts → ((j : ℕ) → occ j (at i s ks us) ≤ 1) → Searched rules us ts m ws xs → Top rules ks (arguments_of t) n vs ws → Top rules us ts m ws xs → Top rules (at i s ks us) (cons t ts) (n + m) vs xs
  top_idle i s ks us t ts n m vs ws xs z is are once e (silent w) r = top_later rules i s ks us t ts xs (next_whole rules t w ∙ z ks t is) is once m n ws r
  top_idle i s ks us t ts n m vs ws xs z is are once e (row {i = j} {rest = rest} o) r = row (opening_below rules i s us ts ws xs m (λ _ _ _ _ d. idle z d e) n ks t j rest o)
  top_idle i s ks us t ts n m vs ws xs z is are once e (node {p = p} {rest = rest} f) r = node (found_below rules i s us ts ws xs m (λ _ _ _ _ d. idle z d e) n ks t p rest is are once f)

  pub top : {q : Placed} {ts : Terms} {n : ℕ} {vs xs : List Visit} → Searched rules q ts n vs xs → AreTerms q ts → ((j : ℕ) → occ j q ≤ 1) → Top rules q ts n vs xs
  top through a once = silent refl
  top (fresh {i = i} {s = s} {ks = ks} {us = us} {ts = nil} {vs = vs}) a once = absurd a
  top (fresh {i = i} {s = s} {ks = ks} {us = us} {ts = cons t ts} {vs = vs}) a once = row (opened rules i s ks us t ts a.0 a.1 vs)
  top (reached {i = i} {s = s} {ks = ks} {us = us} {t = t} {ts = ts} {n = n} {m = m} {vs = vs} {ws = ws} {xs = xs} d e) a once =
      top_below i s ks us t ts n m vs ws xs a.0 a.1 once e (top d (arguments_are s ks t a.0) (λ j. let o = once j in omega arith))
  top (idle {i = i} {s = s} {ks = ks} {us = us} {t = t} {ts = ts} {n = n} {m = m} {vs = vs} {ws = ws} {xs = xs} z d e) a once =
      top_idle i s ks us t ts n m vs ws xs z a.0 a.1 once e (top d (arguments_are s ks t a.0) (λ j. let o = once j in omega arith)) (top e a.1 (λ j. let o = once j in omega arith))
  top (settled {i = i} {s = s} {ks = ks} {us = us} {t = t} {ts = ts} {n = n} {vs = vs} {xs = xs} z e) a once =
      subst (λ k. Top rules (at i s ks us) (cons t ts) k vs xs) (let w : 0 + n ≡ n = omega arith in w) (top_later rules i s ks us t ts xs z a.0 once n 0 vs (top e a.1 (λ j. let o = once j in omega arith)))

  -- ---- bounds

  pub few_turns : {q : Placed} {ts : Terms} {n : ℕ} {vs xs : List Visit} → Searched rules q ts n vs xs → n ≤ 2 * size q
  few_turns through = omega arith
  few_turns fresh = omega arith
  few_turns (reached d e) = let a = few_turns d in let b = few_turns e in omega arith
  few_turns (idle z d e) = let a = few_turns d in let b = few_turns e in omega arith
  few_turns (settled z e) = let b = few_turns e in omega arith

  pub short_stack : {q : Placed} {ts : Terms} {n : ℕ} {vs xs : List Visit} → Searched rules q ts n vs xs → length vs ≤ size q + length xs
  short_stack through = omega arith
  short_stack fresh = omega arith
  short_stack (reached d e) = let a = short_stack d in let b = short_stack e in omega arith
  short_stack (idle z d e) = let a = short_stack d in let b = short_stack e in omega arith
  short_stack (settled z e) = let b = short_stack e in omega arith

  -- the visits after a row stay
  pub long_stack : {q : Placed} {ts : Terms} {n : ℕ} {vs xs : List Visit} → Searched rules q ts n vs xs → length xs ≤ length vs
  long_stack through = omega arith
  long_stack fresh = omega arith
  long_stack (reached d e) = let a = long_stack d in let b = long_stack e in omega arith
  long_stack (idle z d e) = let a = long_stack d in let b = long_stack e in omega arith
  long_stack (settled z e) = long_stack e
