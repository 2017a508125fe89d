-- The visits that search a held term: the first of them, and how many there are.
use Rattle.std.proofs.Common.{◌≡◌, refl, sym, ◌∙◌, ap, subst, List, [], ◌∷◌, ℕ, suc, ◌+◌, ◌*◌, ◌≤◌, length, get_or, Some, Option, arith}
use Rattle.std.proofs.Math.Option.{none as nothing, some}
use Rattle.terms.specs.declared.node.Node.{Node}
use Rattle.terms.specs.declared.symbol.Symbol.{Symbol}
use Rattle.terms.specs.Term.{Term, variable, instrument, apply}
use Rattle.terms.specs.Nodes.{vacant}
use Rattle.terms.specs.Signature.{Sig}
use Rattle.terms.specs.Rule.{Rule}
use Rattle.traversal.specs.Walks.{most_symbols}
use Rattle.rewriting.specs.Next.{contracted, next, next_in}
use Rattle.node_store.specs.Memory.{Memory}
use Rattle.node_store.specs.Placed.{Placed, none, at, link, occ, size, IsTerm, Held, also}
use Rattle.node_store.specs.Loading.{arguments_of}
use Rattle.node_store.specs.Grafting.{graft, Sub, here, under}
use Rattle.node_store.proofs.Grafts.{sub_occ, sub_holds, sub_node, graft-here, graft-there}
use Rattle.node_store.proofs.Counting.{all_nodes}
use Rattle.compiled.specs.declared.CompiledRules.{CompiledRules}
use Rattle.engine.specs.declared.visits.Visit.{Visit}
use Rattle.engine.specs.declared.visits.Visit.TheVariants.{Fresh, Reached}
use Rattle.engine.specs.Searched.{ahead, Idle, Seeking, below, finished, Renewed, quiet, again}
use Rattle.engine.specs.Searching.{Prepared, Shows, Nearer, Onward}
use Rattle.engine.proofs.Nexts.{next_whole, next_inside}
use Rattle.engine.proofs.Tops.{arguments_are, Onward as OnwardIn, Found, Top, silent, row, node, top, few_turns, short_stack, long_stack, whole_row}

no_sub : {p : ℕ} {s : Option Symbol} {ks : Placed} → Sub p s ks none → ⊥
no_sub x = elim x [ ]

-- a row of the term is looked at first
pub record RowFirst (ns : List Node) (rules : List Rule) (root : ℕ) (ks : Placed) (t : Term) (n i : ℕ) (rest : List Visit) : Type 0 where
  pub symbol : Option Symbol
  pub under : Placed
  pub others : Placed
  pub node : get_or ns i vacant ≡ record { symbol = symbol; first = link under; next = link others }
  pub visit : Nearer rules root ks t n (ahead (link under) (Reached i ∷ ahead (link others) rest))
  pub pass : Idle rules symbol → Nearer rules root ks t n (ahead (link under) (ahead (link others) rest))

-- a node of the term is visited first
pub record NodeFirst (ns : List Node) (rules : List Rule) (root : ℕ) (s : Option Symbol) (ks : Placed) (t : Term) (n p : ℕ) (rest : List Visit) : Type 0 where
  pub symbol : Option Symbol
  pub below : Placed
  pub part : Term
  pub sub : Sub p symbol below (at root s ks none)
  pub shows : Shows ns p symbol below
  pub is : IsTerm symbol below part
  pub done : next_in rules (arguments_of part) ≡ nothing
  pub pass : contracted rules part ≡ nothing → Nearer rules root ks t n rest
  pub step : (u : Term) → contracted rules part ≡ some u → Onward rules root s ks t p rest part u

module _ {m : Memory} {c : CompiledRules} {sig : Sig} {rules : List Rule} {h : Held} {root : ℕ} {s : Option Symbol} {ks : Placed} {t : Term} {g : Placed} (p : Prepared m c sig rules h root s ks t g) where
  is : IsTerm s ks t
  is = p.work.terms.3

  once : (j : ℕ) → occ j ks ≤ 1
  once j = let o = p.work.once j in omega arith

  few : size ks + 1 ≤ most_symbols
  few = let a = all_nodes m (also root s ks t h) [] g p.work in let b = p.few in omega arith

  pub seeking_turns : (n : ℕ) (vs : List Visit) → Seeking rules root ks t n vs → n ≤ 32768
  unfolding most_symbols
  seeking_turns n vs (below d) = let a = few_turns rules d in let b = few in omega arith
  seeking_turns n vs (finished z) = omega arith

  pub seeking_short : (n : ℕ) (vs : List Visit) → Seeking rules root ks t n vs → length vs ≤ 16384
  unfolding most_symbols
  seeking_short n vs (below d) = let a = short_stack rules d in let b = few in omega arith
  seeking_short n vs (finished z) = omega arith

  -- no visit is left
  pub seeking_none : (n : ℕ) → Seeking rules root ks t n [] → next rules t ≡ nothing
  seeking_none n (below d) = let a = long_stack rules d in absurd (let z : ⊥ = omega arith in z)
  seeking_none n (finished z) = z

  pub seeking_row : (n i : ℕ) (rest : List Visit) → Seeking rules root ks t n (Fresh i ∷ rest) → RowFirst m.nodes rules root ks t n i rest
  seeking_row n i rest (below {n = k} d) = go (top rules d (arguments_are s ks t is) once)
    where
      go : Top rules ks (arguments_of t) k (Fresh i ∷ rest) (Reached root ∷ []) → RowFirst m.nodes rules root ks t (suc k) i rest
      go (row o) = record {
        symbol = o.symbol;
        under = o.under;
        others = o.others;
        node = o.node m.nodes p.work.terms.2;
        visit = let (j, l, d) = o.visit in (suc j, omega arith, below d);
        pass = λ z. let (j, l, d) = o.pass z in (suc j, omega arith, below d);
      }

  -- at the root
  at_root : (n : ℕ) → next_in rules (arguments_of t) ≡ nothing → NodeFirst m.nodes rules root s ks t (suc n) root []
  at_root n w = record {
    symbol = s;
    below = ks;
    part = t;
    sub = here;
    shows = record { symbol = ap (λ (x : Node). x.symbol) p.work.terms.1; first = ap (λ (x : Node). x.first) p.work.terms.1; row = p.work.terms.2 };
    is = is;
    done = w;
    pass = λ z. (0, omega arith, finished (next_whole rules t w ∙ z));
    step = λ u z. record {
      onto = u;
      next = next_whole rules t w ∙ z;
      change = omega arith;
      after = λ e a vs x r. (e, a, sym (graft-here root e a root s ks none refl), x, seek a u vs r);
    };
  }
    where
      seek : (a : Placed) (u : Term) (vs : List Visit) → Renewed rules root a u vs [] → (j : ℕ) × Seeking rules root a u j vs
      seek a u vs (quiet z) = (0, finished z)
      seek a u vs (again {n = j} d) = (suc j, below d)

  -- what a step below the root makes
  step_below : (x : Term) (i : ℕ) (rest : List Visit) (part u : Term) {symbol : Option Symbol} {under : Placed} → Sub i symbol under ks → IsTerm s ks x → OnwardIn rules ks (arguments_of x) (Reached root ∷ []) i rest part u → Onward rules root s ks x i rest part u
  step_below (variable x) i rest part u {symbol} {under} b a o = absurd (no_sub (subst (Sub i symbol under) a.1 b))
  step_below (instrument x) i rest part u {symbol} {under} b a o = absurd (no_sub (subst (Sub i symbol under) a.1 b))
  step_below (apply f ts) i rest part u b a o =
      let v = o.change in
      record {
        onto = apply f o.terms;
        next = next_inside rules f ts o.terms o.next;
        change = omega arith;
        after = λ e k vs x r.
            let (y, (j, d)) = o.after e k vs x r in
            let n = p.work.once i in
            let l = sub_occ b in
            (s, graft i e k ks, sym (graft-there i e k root s ks none (omega arith)), (a.0, (let w = o.many in omega (arith, a.1)), y), (suc j, below d));
      }

  at_node : (n i : ℕ) (rest : List Visit) → Found rules ks (arguments_of t) n (Reached root ∷ []) i rest → NodeFirst m.nodes rules root s ks t (suc n) i rest
  at_node n i rest f =
      let (_, e) = sub_node m.nodes f.sub p.work.terms.2 in
      record {
        symbol = f.symbol;
        below = f.below;
        part = f.part;
        sub = under f.sub;
        shows = record { symbol = ap (λ (x : Node). x.symbol) e; first = ap (λ (x : Node). x.first) e; row = sub_holds m.nodes f.sub p.work.terms.2 };
        is = f.is;
        done = f.done;
        pass = λ z. let (j, l, d) = f.pass z in (suc j, omega arith, below d);
        step = λ u z. step_below t i rest f.part u f.sub is (f.step u z);
      }

  pub seeking_node : (n i : ℕ) (rest : List Visit) → Seeking rules root ks t n (Reached i ∷ rest) → NodeFirst m.nodes rules root s ks t n i rest
  seeking_node n i rest (below {n = k} d) = go i rest (top rules d (arguments_are s ks t is) once)
    where
      go : (i : ℕ) (rest : List Visit) → Top rules ks (arguments_of t) k (Reached i ∷ rest) (Reached root ∷ []) → NodeFirst m.nodes rules root s ks t (suc k) i rest
      go i rest (silent w) = at_root k w
      go i rest (node f) = at_node k i rest f

  -- nothing has been looked at
  pub seeking_all : (n : ℕ) × Seeking rules root ks t n (ahead (link ks) (Reached root ∷ []))
  seeking_all = (suc (2 * size ks), below (whole_row rules ks (arguments_of t) (Reached root ∷ []) (arguments_are s ks t is)))

  pub root_node : get_or m.nodes root vacant ≡ record { symbol = s; first = link ks; next = Some root }
  root_node = p.work.terms.1
