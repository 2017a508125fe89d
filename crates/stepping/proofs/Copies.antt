-- Copying a row of nodes from its last place to its first.
use Rattle.std.proofs.Common.{◌≡◌, ℕ, suc, ◌+◌, ◌<◌, ◌≤◌, Bool, List, [], ◌∷◌, ◌++◌, length, get_or, Some, None, Option, Ok, Err, Result, is_some, sym, refl, ap, ◌∙◌, subst, append_assoc, append-nil, arith}
use Rattle.std.proofs.lemmas.List.{length-append}
use Rattle.std.specs.List.{cons_option}
use Rattle.std.specs.Result.{result_ok}
use Rattle.fixed_vec.specs.declared.Full.{Full}
use Rattle.fixed_vec.specs.FixedVec.{Added, Removed, Popped}
use Rattle.terms.specs.declared.node.Node.{Node}
use Rattle.terms.specs.declared.symbol.Symbol.{Symbol}
use Rattle.terms.specs.declared.symbol.Symbol.TheVariants.{Variable, Instrument, Operator}
use Rattle.terms.specs.Term.{Term, variable, instrument, apply, Terms, nil, cons, symbols}
use Rattle.terms.specs.Nodes.{vacant}
use Rattle.traversal.specs.Walks.{most_symbols}
use Rattle.node_store.specs.Memory.{Memory}
use Rattle.node_store.specs.Placed.{Placed, none, at, link, Holds, size, IsTerm, AreTerms, Held}
use Rattle.node_store.specs.Work.{Work, HoldAll, Joins, Joined}
use Rattle.node_store.proofs.Rows.{with_none}
use Rattle.node_store.proofs.Counting.{all_nodes}
use Rattle.node_store.proofs.Standing.{term_size}
use Rattle.node_store.proofs.Tracing.{small}
use Rattle.matching.specs.Surveying.{in_order}
use Rattle.matching.proofs.Sizings.{in_order_long}
use Rattle.matching.proofs.Onwards.{links}
use Rattle.stepping.specs.Copying.{Taken, Repeats, Copied}
use Rattle.stepping.proofs.Reading.{Skips, same, one}
use Rattle.stepping.proofs.Forests.{taken_link, longer}

pub few_nodes : (m : Memory) → length m.nodes ≤ most_symbols → length m.nodes ≤ 65536
few_nodes m few = let n = small (length m.nodes) few in omega arith

-- an item is pushed where there is room
pub pushed_on : (r : Result (Unit {0}) Full) (n : ℕ) (before : List ℕ) (x : ℕ) (after : List ℕ) → length before < n → Added n before x after r → (result_ok r ≡ Some tt) × (after ≡ x ∷ before)
pushed_on (Ok u) n before x after short a = (refl, a)
pushed_on (Err e) n before x after short a = absurd (let z : ⊥ = omega (arith, a.1) in z)

module _ (m k : Memory) (n : Node) (p : ℕ) (before s₁ s₂ : List ℕ) (wanted then : Bool) (first next : Option ℕ) (node : n ≡ get_or m.nodes p vacant) (w : wanted ≡ is_some n.first) (u : then ≡ is_some n.next) (t₁ : Taken wanted before s₁ first) (t₂ : Taken then s₁ s₂ next) where
  -- what is taken off the stack for a node's arguments and its siblings
  pub record Tops (a b : Placed) (rest : List ℕ) : Type 0 where
    pub first_is : link a ≡ first
    pub next_is : link b ≡ next
    pub left : s₂ ≡ rest

  tops : (a b : Placed) (rest : List ℕ) → is_some (get_or m.nodes p vacant).first ≡ is_some (link a) → is_some (get_or m.nodes p vacant).next ≡ is_some (link b) → before ≡ cons_option (link a) (cons_option (link b) rest) → Tops a b rest
  tops a b rest e f z =
      let x = taken_link wanted a (cons_option (link b) rest) before s₁ first z (w ∙ ap (λ (y : Node). is_some y.first) node ∙ e) t₁ in
      let y = taken_link then b rest s₁ s₂ next x.1 (u ∙ ap (λ (y : Node). is_some y.next) node ∙ f) t₂ in
      record { first_is = sym x.0; next_is = sym y.0; left = y.1 }

  -- there was a node to make
  pub not_repeated : (after : List ℕ) (r : Option (Unit {0})) → ((h : Held) (a b : Placed) (qs : List Placed) (g : Placed) → Work m h (a ∷ b ∷ qs) g → link a ≡ first → link b ≡ next → length m.nodes ≤ 65536 → m.free ≡ 0) → Repeats m p before k after r
  not_repeated after r full h s a b rest qs g is e f z short work free few =
      let o = tops a b rest e f z in
      absurd (let x = full h a b qs g work o.first_is o.next_is (few_nodes m few) in let y : ⊥ = omega arith in y)

  -- the new node goes on the stack
  pub repeated : (x : Symbol) (i : ℕ) (after : List ℕ) (pushed : Result (Unit {0}) Full) (r : Option (Unit {0})) → n.symbol ≡ Some x → r ≡ result_ok pushed → Added 16384 s₂ i after pushed
      → ((h : Held) (a b : Placed) (qs : List Placed) (g : Placed) → Work m h (a ∷ b ∷ qs) g → link a ≡ first → link b ≡ next → length m.nodes ≤ 65536 → Joined m h (Some x) a b qs k (Some i)) → Repeats m p before k after r
  repeated x i after pushed r sx e added made h s a b rest qs g is f l z short work free few =
      let o = tops a b rest f l z in
      let v = o.left in
      let d = ap length v in
      let y = ap length z in
      let long = longer (link a) (link b) rest in
      let within = small (suc (length before)) (omega arith) in
      let put = pushed_on pushed 16384 s₂ i after (omega arith) added in
      let w = made h a b qs g work o.first_is o.next_is (few_nodes m few) in
      let same : Some x ≡ Some s = sym sx ∙ ap (λ (y : Node). y.symbol) node ∙ is in
      record {
        place = i;
        gone = w.0;
        answer = e ∙ put.0;
        stacked = put.1 ∙ ap (λ l. i ∷ l) v;
        work = subst (λ y. Work k h (at i y a b ∷ qs) w.0) same w.1;
        free = w.2;
        long = w.3;
      }

-- two rows have the same symbols in the same order
abbrev pub Same : Placed → Placed → Type 0
Same none none = Unit {0}
Same none (at j t js vs) = ⊥
Same (at i s ks us) none = ⊥
Same (at i s ks us) (at j t js vs) = (s ≡ t) × Same ks js × Same us vs

same_some : (q r : Placed) → Same q r → is_some (link q) ≡ is_some (link r)
same_some none none e = refl
same_some none (at j t js vs) e = absurd e
same_some (at i s ks us) none e = absurd e
same_some (at i s ks us) (at j t js vs) e = refl

same_none : (q : Placed) → Same none q → q ≡ none
same_none none e = refl
same_none (at j t js vs) e = absurd e

-- such rows have the same terms
mutual
  same_term : (s t : Option Symbol) (ks js : Placed) (x : Term) → s ≡ t → Same ks js → IsTerm s ks x → IsTerm t js x
  same_term s t ks js (variable x) e f is = (sym e ∙ is.0, same_none js (subst (λ q. Same q js) is.1 f))
  same_term s t ks js (instrument n) e f is = (sym e ∙ is.0, same_none js (subst (λ q. Same q js) is.1 f))
  same_term s t ks js (apply g ts) e f is = (sym e ∙ is.0, is.1, same_terms ks js ts f is.2)

  same_terms : (q r : Placed) (ts : Terms) → Same q r → AreTerms q ts → AreTerms r ts
  same_terms none none nil e are = tt
  same_terms none none (cons t ts) e are = absurd are
  same_terms none (at j t js vs) ts e are = absurd e
  same_terms (at i s ks us) none ts e are = absurd e
  same_terms (at i s ks us) (at j t js vs) nil e are = absurd are
  same_terms (at i s ks us) (at j t js vs) (cons x ts) e are = (same_term s t ks js x e.0 e.1 are.0, same_terms us vs ts e.2 are.1)

-- each node has a symbol
abbrev pub Named : Placed → Type 0
Named none = Unit {0}
Named (at i s ks us) = ((x : Symbol) × (s ≡ Some x)) × Named ks × Named us

mutual
  named_term : (s : Option Symbol) (ks : Placed) (t : Term) → IsTerm s ks t → ((x : Symbol) × (s ≡ Some x)) × Named ks
  named_term s ks (variable x) is = ((Variable x, is.0), subst Named (sym is.1) tt)
  named_term s ks (instrument n) is = ((Instrument n, is.0), subst Named (sym is.1) tt)
  named_term s ks (apply f ts) is = ((Operator f, is.0), named_terms ks ts is.2)

  named_terms : (q : Placed) (ts : Terms) → AreTerms q ts → Named q
  named_terms none ts are = tt
  named_terms (at i s ks us) nil are = absurd are
  named_terms (at i s ks us) (cons t ts) are = let a = named_term s ks t are.0 in (a.0, a.1, named_terms us ts are.1)

-- the places that are gone through so far, and the rows that are left
pub data Walked (start : Placed) : List ℕ → List Placed → Type 0 where
  begin : Walked start [] (start ∷ [])
  skip : {ps : List ℕ} {qs : List Placed} → Walked start ps (none ∷ qs) → Walked start ps qs
  walk : {ps rs : List ℕ} {i : ℕ} {s : Option Symbol} {ks us : Placed} {qs : List Placed} → Walked start ps (at i s ks us ∷ qs) → rs ≡ ps ++ i ∷ [] → Walked start rs (ks ∷ us ∷ qs)

walk_row : (start : Placed) (ps : List ℕ) (q : Placed) (qs : List Placed) → Walked start ps (q ∷ qs) → Walked start (ps ++ in_order q) qs
walk_row start ps none qs w = subst (λ l. Walked start l qs) (sym (append-nil ps)) (skip w)
walk_row start ps (at i s ks us) qs w =
    let a = walk_row start (ps ++ i ∷ []) ks (us ∷ qs) (walk w refl) in
    let b = walk_row start ((ps ++ i ∷ []) ++ in_order ks) us qs a in
    let e : ((ps ++ i ∷ []) ++ in_order ks) ++ in_order us ≡ ps ++ i ∷ (in_order ks ++ in_order us) = append_assoc (ps ++ i ∷ []) (in_order ks) (in_order us) ∙ append_assoc ps (i ∷ []) (in_order ks ++ in_order us) in
    subst (λ l. Walked start l qs) e b

pub walk_all : (start : Placed) → Walked start (in_order start) []
walk_all start = walk_row start [] start [] begin

-- the nodes are as the rows that are left say
walked_hold : (ns : List Node) (start : Placed) (ps : List ℕ) (qs : List Placed) → Holds ns start → Walked start ps qs → HoldAll ns qs
walked_hold ns start ps qs h begin = (h, tt)
walked_hold ns start ps qs h (skip w) = (walked_hold ns start ps (none ∷ qs) h w).1
walked_hold ns start ps qs h (walk {ps = ps′} {i = i} {s = s} {ks = ks} {us = us} {qs = qs′} w e) = let a = walked_hold ns start ps′ (at i s ks us ∷ qs′) h w in (a.0.2, (a.0.3, a.1))

abbrev NamedRows : List Placed → Type 0
NamedRows [] = Unit {0}
NamedRows (q ∷ qs) = Named q × NamedRows qs

walked_named : (start : Placed) (ps : List ℕ) (qs : List Placed) → Named start → Walked start ps qs → NamedRows qs
walked_named start ps qs h begin = (h, tt)
walked_named start ps qs h (skip w) = (walked_named start ps (none ∷ qs) h w).1
walked_named start ps qs h (walk {ps = ps′} {i = i} {s = s} {ks = ks} {us = us} {qs = qs′} w e) = let a = walked_named start ps′ (at i s ks us ∷ qs′) h w in (a.0.1, (a.0.2, a.1))

-- the last place
pub record LastWalked (start : Placed) (ps : List ℕ) (p : ℕ) (qs : List Placed) : Type 0 where
  symbol : Option Symbol
  under : Placed
  later : Placed
  others : List Placed
  was : Walked start ps (at p symbol under later ∷ others)
  skips : Skips none (under ∷ later ∷ others) qs

snoc_same : (xs ys : List ℕ) (x y : ℕ) → xs ++ x ∷ [] ≡ ys ++ y ∷ [] → (xs ≡ ys) × (x ≡ y)
snoc_same [] [] x y e = (refl, cc)
snoc_same [] (b ∷ ys) x y e = let n = ap length e in absurd (let z : ⊥ = omega (arith, length-append ys (y ∷ [])) in z)
snoc_same (a ∷ xs) [] x y e = let n = ap length e in absurd (let z : ⊥ = omega (arith, length-append xs (x ∷ [])) in z)
snoc_same (a ∷ xs) (b ∷ ys) x y e =
    let f : xs ++ x ∷ [] ≡ ys ++ y ∷ [] = cc in
    let g = snoc_same xs ys x y f in
    let h : a ≡ b = cc in
    (λ d. h d ∷ g.0 d, g.1)

last_walked : (start : Placed) (rs ps : List ℕ) (p : ℕ) (qs : List Placed) → rs ≡ ps ++ p ∷ [] → Walked start rs qs → LastWalked start ps p qs
last_walked start rs ps p qs n begin = let z = ap length n in absurd (let y : ⊥ = omega (arith, length-append ps (p ∷ [])) in y)
last_walked start rs ps p qs n (skip w) = let l = last_walked start rs ps p (none ∷ qs) n w in record { symbol = l.symbol; under = l.under; later = l.later; others = l.others; was = l.was; skips = one l.skips }
last_walked start rs ps p qs n (walk {ps = ps′} {i = i} {s = s} {ks = ks} {us = us} {qs = qs′} w e) =
    let a = snoc_same ps′ ps i p (sym e ∙ n) in
    record { symbol = s; under = ks; later = us; others = qs′; was = subst (λ l. Walked start l (at p s ks us ∷ qs′)) a.0 (subst (λ c. Walked start ps′ (at c s ks us ∷ qs′)) a.1 w); skips = same }

first_walked : (start : Placed) (rs : List ℕ) (qs : List Placed) → rs ≡ [] → Walked start rs qs → Skips none (start ∷ []) qs
first_walked start rs qs n begin = same
first_walked start rs qs n (skip w) = one (first_walked start rs (none ∷ qs) n w)
first_walked start rs qs n (walk {ps = ps′} {i = i} w e) = let l = ap length (sym e ∙ n) in absurd (let z : ⊥ = omega (arith, length-append ps′ (i ∷ [])) in z)

abbrev pub SameRows : List Placed → List Placed → Type 0
SameRows [] [] = Unit {0}
SameRows [] (r ∷ rs) = ⊥
SameRows (q ∷ qs) [] = ⊥
SameRows (q ∷ qs) (r ∷ rs) = Same q r × SameRows qs rs

-- rows stand that are the same as those that are left of the source, beside others, and a stack has the links to them
pub record CopiedRows (m : Memory) (h : Held) (others : List Placed) (stack : List ℕ) (sources : List Placed) : Type 0 where
  pub rows : List Placed
  pub gone : Placed
  pub same_rows : SameRows sources rows
  pub stacked : stack ≡ links rows
  pub work : Work m h (rows ++ others) gone

copied_skips : (m : Memory) (h : Held) (others : List Placed) (stack : List ℕ) (qs rs : List Placed) → Skips none qs rs → CopiedRows m h others stack rs → CopiedRows m h others stack qs
copied_skips m h others stack qs rs same c = c
copied_skips m h others stack qs rs (one s) c = copied_skips m h others stack qs (none ∷ rs) s (record { rows = none ∷ c.rows; gone = c.gone; same_rows = (tt, c.same_rows); stacked = c.stacked; work = with_none m h (c.rows ++ others) c.gone c.work })

pub no_items : {A : Type 0} (l : List A) → length l ≡ 0 → l ≡ []
no_items [] e = refl
no_items (x ∷ l) e = absurd (let z : ⊥ = omega arith in z)

pub popped_link : (q : Placed) (before after : List ℕ) (o : Option ℕ) → before ≡ links (q ∷ []) → Removed before after o → o ≡ link q
popped_link none before after None e p = refl
popped_link none before after (Some x) e p = absurd (let z : ⊥ = cc in z)
popped_link (at i s ks us) before after None e p = absurd (let z : ⊥ = cc in z)
popped_link (at i s ks us) before after (Some x) e p = cc

-- k of the n nodes below a part are copied, the last ones
pub record Copying (m₀ : Memory) (h : Held) (others : List Placed) (source : Placed) (n k : ℕ) (m : Memory) (order stack : List ℕ) : Type 0 where
  pub sources : List Placed
  pub walked : Walked source order sources
  pub copied : CopiedRows m h others stack sources
  pub free : m.free + k ≡ m₀.free
  pub sum : k + length order ≡ n
  pub whole : n ≡ size source
  pub short : length stack ≤ k
  pub long : length m.nodes ≡ length m₀.nodes

module _ (m₀ : Memory) (h : Held) (p : ℕ) (s : Option Symbol) (ks : Placed) (t : Term) (b : Placed) (qs : List Placed) (g : Placed) (work : Work m₀ h (b ∷ at p s ks none ∷ qs) g) (is : IsTerm s ks t) (room : symbols t ≤ m₀.free) (few : length m₀.nodes ≤ most_symbols) where
  -- the source has no more nodes than can be surveyed
  pub copy_size : size ks ≤ most_symbols
  copy_size = omega (arith, term_size s ks t is, all_nodes m₀ h (b ∷ at p s ks none ∷ qs) g work)

  pub copy_starts : (n : ℕ) (order stack : List ℕ) → n ≡ length order → order ≡ in_order ks → stack ≡ [] → Copying m₀ h (b ∷ at p s ks none ∷ qs) ks n 0 m₀ order stack
  copy_starts n order stack w e f = record {
    sources = [];
    walked = subst (λ l. Walked ks l []) (sym e) (walk_all ks);
    copied = record { rows = []; gone = g; same_rows = tt; stacked = f; work = work };
    free = omega arith;
    sum = omega arith;
    whole = w ∙ ap length e ∙ in_order_long ks;
    short = let z = ap length f in omega arith;
    long = refl;
  }

  module _ (n k : ℕ) (m m′ : Memory) (order order′ stack stack′ : List ℕ) (x : ℕ) (r : Option (Unit {0})) (e : order ≡ order′ ++ x ∷ []) (made : Repeats m x stack m′ stack′ r) where
    pub record Step : Type 0 where
      pub answer : r ≡ Some tt
      pub copying : Copying m₀ h (b ∷ at p s ks none ∷ qs) ks n (k + 1) m′ order′ stack′

    source_holds : (rows : List Placed) → HoldAll m.nodes (rows ++ (b ∷ at p s ks none ∷ qs)) → Holds m.nodes ks
    source_holds [] a = a.1.0.2
    source_holds (r ∷ rs) a = source_holds rs a.1

    step_rows : (i : ℕ) (y : Option Symbol) (js us : Placed) (others : List Placed) → Walked ks order′ (at x y js us ∷ others) → CopiedRows m h (b ∷ at p s ks none ∷ qs) stack (js ∷ us ∷ others) → Copying m₀ h (b ∷ at p s ks none ∷ qs) ks n k m order stack → Step
    step_rows i y js us others w c old = go c.rows c.same_rows c.stacked c.work
      where
        go : (rows : List Placed) → SameRows (js ∷ us ∷ others) rows → stack ≡ links rows → Work m h (rows ++ (b ∷ at p s ks none ∷ qs)) c.gone → Step
        go [] alike st wk = absurd alike
        go (a ∷ []) alike st wk = absurd alike.1
        go (a ∷ d ∷ rows) alike st wk =
            let held = walked_hold m.nodes ks order′ (at x y js us ∷ others) (source_holds (a ∷ d ∷ rows) wk.rows) w in
            let named = walked_named ks order′ (at x y js us ∷ others) (named_term s ks t is).1 w in
            let node = held.0.1 in
            let long = old.long in
            let size = term_size s ks t is in
            let many = ap length e in
            let most = copy_size in
            let last = length-append order′ (x ∷ []) in
            let sum = old.sum in
            let whole = old.whole in
            let short = old.short in
            let free = old.free in
            let stack_long = ap length st in
            let less = longer (link a) (link d) (links rows) in
            let z = made h named.0.0.0 a d (links rows) (rows ++ (b ∷ at p s ks none ∷ qs)) c.gone (ap (λ (n : Node). n.symbol) node ∙ named.0.0.1) (ap (λ (n : Node). is_some n.first) node ∙ same_some js a alike.0) (ap (λ (n : Node). is_some n.next) node ∙ same_some us d alike.1.0) st (omega arith) wk (omega arith) (omega (arith, old.long)) in
            let new = ap length {y = z.place ∷ links rows} z.stacked in
            record {
              answer = z.answer;
              copying = record {
                sources = at x y js us ∷ others;
                walked = w;
                copied = record { rows = at z.place (Some named.0.0.0) a d ∷ rows; gone = z.gone; same_rows = ((named.0.0.1, alike.0, alike.1.0), alike.1.1); stacked = z.stacked; work = z.work };
                free = omega (arith, z.free);
                sum = omega arith;
                whole = whole;
                short = omega arith;
                long = z.long ∙ old.long;
              };
            }

    pub copy_step : Copying m₀ h (b ∷ at p s ks none ∷ qs) ks n k m order stack → Step
    copy_step c = let l = last_walked ks order order′ x c.sources e c.walked in step_rows x l.symbol l.under l.later l.others l.was (copied_skips m h (b ∷ at p s ks none ∷ qs) stack (l.under ∷ l.later ∷ l.others) c.sources l.skips c.copied) c

  -- a place was left
  pub copy_misses : (n k : ℕ) (m : Memory) (order after stack : List ℕ) → k < n → Popped order after None → Copying m₀ h (b ∷ at p s ks none ∷ qs) ks n k m order stack → ⊥
  copy_misses n k m order after stack less e c = let z = ap length e.0 in let y : ⊥ = omega (arith, c.sum) in y

  -- all are copied, and the first node is made over them
  module _ (n k : ℕ) (m m′ : Memory) (order stack after : List ℕ) (top next : Option ℕ) (y : Symbol) (r : Option ℕ) (all : n ≤ k) (named : s ≡ Some y) (e : link b ≡ next) (popped : Removed stack after top) (joins : Joins m y top next m′ r) where
    whole_copied : CopiedRows m h (b ∷ at p s ks none ∷ qs) stack (ks ∷ []) → Copying m₀ h (b ∷ at p s ks none ∷ qs) ks n k m order stack → Copied m₀ h p s ks t b qs m′ r
    whole_copied c old = go c.rows c.same_rows c.stacked c.work
      where
        ended : (a : Placed) → Same ks a → link a ≡ top → Work m h (a ∷ b ∷ at p s ks none ∷ qs) c.gone → (o : Option ℕ) → Joined m h (Some y) a b (at p s ks none ∷ qs) m′ o → Copied m₀ h p s ks t b qs m′ o
        ended a alike first wk None j = absurd (let z : ⊥ = omega (arith, old.free, old.sum, old.whole, term_size s ks t is) in z)
        ended a alike first wk (Some i) j =
            let f = j.2 in
            record {
              place = i;
              row = a;
              gone = j.0;
              answer = refl;
              is = same_term s s ks a t refl alike is;
              work = subst (λ x. Work m′ h (at i x a b ∷ at p s ks none ∷ qs) j.0) (sym named) j.1;
              free = omega (arith, old.free, old.sum, old.whole, term_size s ks t is);
              long = j.3 ∙ old.long;
            }

        go : (rows : List Placed) → SameRows (ks ∷ []) rows → stack ≡ links rows → Work m h (rows ++ (b ∷ at p s ks none ∷ qs)) c.gone → Copied m₀ h p s ks t b qs m′ r
        go [] alike st wk = absurd alike
        go (a ∷ d ∷ rows) alike st wk = absurd alike.1
        go (a ∷ []) alike st wk = ended a alike.0 (sym (popped_link a stack after top st popped)) wk r (joins h a b (at p s ks none ∷ qs) c.gone wk (sym (popped_link a stack after top st popped)) e (few_nodes m (omega (arith, old.long))))

    pub copy_ends : Copying m₀ h (b ∷ at p s ks none ∷ qs) ks n k m order stack → Copied m₀ h p s ks t b qs m′ r
    copy_ends c = whole_copied (copied_skips m h (b ∷ at p s ks none ∷ qs) stack (ks ∷ []) c.sources (first_walked ks order c.sources none_left c.walked) c.copied) c
      where
        none_left : order ≡ []
        none_left = no_items order (omega (arith, c.sum))
