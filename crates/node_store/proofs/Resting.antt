-- A held term aside of the others while its nodes change, and the invariant of a pool when all is at rest again.
use Rattle.std.proofs.Common.{◌≡◌, ℕ, ◌+◌, ◌≤◌, ◌==◌, cond, List, [], length, Some, Option, sym, ap, ◌∙◌, ⊎_elim, arith}
use Rattle.terms.specs.declared.symbol.Symbol.{Symbol}
use Rattle.terms.specs.Term.{Term, symbols}
use Rattle.traversal.specs.Walks.{most_symbols}
use Rattle.node_store.specs.Memory.{Memory}
use Rattle.node_store.specs.Placed.{Placed, Held, also, term_at}
use Rattle.node_store.specs.Sound.{Sound, held_at}
use Rattle.node_store.specs.Work.{Work}
use Rattle.node_store.proofs.Standing.{term_size, hit_cases}
use Rattle.node_store.proofs.Helds.{out, hit_yes, hit_none, held_is}
use Rattle.node_store.proofs.Counting.{all_nodes}

-- the term held at a place is the first of the held terms
pub record Apart (m : Memory) (h : Held) (qs : List Placed) (g : Placed) (p : ℕ) (t : Term) : Type 0 where
  pub symbol : Option Symbol
  pub under : Placed
  pub others : Held
  pub work : Work m (also p symbol under t others) qs g
  pub same : (q : ℕ) → term_at (also p symbol under t others) q ≡ term_at h q

pub apart : (m : Memory) (h : Held) (qs : List Placed) (g : Placed) (p : ℕ) (t : Term) → term_at h p ≡ Some t → Work m h qs g → Apart m h qs g p t
apart m h qs g p t e w =
    let o = out m.nodes h p t e w.terms in
    record {
      symbol = o.symbol;
      under = o.under;
      others = o.others;
      work = record { terms = (o.within, o.node, o.row, o.is, o.terms); rows = w.rows; begins = w.begins; row = w.row; once = λ j. let x = w.once j in let y = o.places j in omega arith; blank = w.blank; within = w.within; count = w.count };
      same = λ q. ⊎_elim
          (λ (z : q ≡ p). ap (λ c. cond c (Some t) (term_at o.others q)) (hit_yes q p z) ∙ sym e ∙ ap (term_at h) (sym z))
          (λ (z : _). ap (λ c. cond c (Some t) (term_at o.others q)) (hit_none q p z) ∙ sym (o.same q z))
          (hit_cases q p);
    }

-- with no other rows the invariant holds
pub at_rest : (m : Memory) (h : Held) (g : Placed) → length m.nodes ≤ most_symbols → Work m h [] g → Sound m
at_rest m h g few w = record { held = h; gone = g; terms = w.terms; begins = w.begins; row = w.row; once = λ j. let o = w.once j in omega arith; blank = w.blank; within = w.within; count = w.count; whole = let x = all_nodes m h [] g w in omega arith; few = few }

pub held_in : (m : Memory) (h : Held) (g : Placed) → length m.nodes ≤ most_symbols → Work m h [] g → (q : ℕ) → held_at m.nodes q ≡ term_at h q
unfolding at_rest
held_in m h g few w q = held_is m (at_rest m h g few w) q

-- another term is held at a place, and all others are as they were
pub record Exchanged (m : Memory) (p : ℕ) (t : Term) (k : Memory) (u : Term) : Type 0 where
  pub sound : Sound k
  pub held : (q : ℕ) → held_at k.nodes q ≡ cond (q == p) (Some u) (held_at m.nodes q)
  pub free : k.free + symbols u ≡ m.free + symbols t

pub exchanged : (m : Memory) (s : Sound m) (p : ℕ) (t : Term) (a : Apart m s.held [] s.gone p t) (k : Memory) (x : Option Symbol) (ks : Placed) (u : Term) (g : Placed) → length k.nodes ≡ length m.nodes → Work k (also p x ks u a.others) [] g → Exchanged m p t k u
exchanged m s p t a k x ks u g long w =
    let few : length k.nodes ≤ most_symbols = omega (arith, s.few) in
    let before = all_nodes m (also p a.symbol a.under t a.others) [] s.gone a.work in
    let now = all_nodes k (also p x ks u a.others) [] g w in
    let n = term_size x ks u w.terms.3 in
    let o = term_size a.symbol a.under t a.work.terms.3 in
    record {
      sound = at_rest k (also p x ks u a.others) g few w;
      held = λ q. held_in k (also p x ks u a.others) g few w q ∙ ⊎_elim
          (λ (z : q ≡ p). ap (λ c. cond c (Some u) (term_at a.others q)) (hit_yes q p z) ∙ sym (ap (λ c. cond c (Some u) (held_at m.nodes q)) (hit_yes q p z)))
          (λ (z : _). ap (λ c. cond c (Some u) (term_at a.others q)) (hit_none q p z) ∙ sym (ap (λ c. cond c (Some t) (term_at a.others q)) (hit_none q p z)) ∙ a.same q ∙ sym (held_is m s q) ∙ sym (ap (λ c. cond c (Some u) (held_at m.nodes q)) (hit_none q p z)))
          (hit_cases q p);
      free = omega arith;
    }
