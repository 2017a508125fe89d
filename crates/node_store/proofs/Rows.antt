-- The rows beside held terms: their order, and what is written at the first node of one.
use Rattle.std.proofs.Common.{◌≡◌, ℕ, ◌+◌, ◌<◌, ◌≤◌, List, [], ◌∷◌, ◌++◌, length, get_or, set, None, Option, sym, refl, ◌∙◌, arith}
use Rattle.std.proofs.lemmas.List.{get_or-set_same, length-set}
use Rattle.terms.specs.declared.node.Node.{Node}
use Rattle.terms.specs.declared.symbol.Symbol.{Symbol}
use Rattle.terms.specs.Nodes.{vacant}
use Rattle.node_store.specs.Memory.{Memory, given, freed_at, linked}
use Rattle.node_store.specs.Placed.{Placed, none, at, link, Holds, size, Held, AllHeld}
use Rattle.node_store.specs.Work.{Work, HoldAll, occ_all}
use Rattle.node_store.specs.Loading.{ended}
use Rattle.node_store.proofs.Placing.{hit_self, keep_set, keep_all_set, keep_rows_set}
use Rattle.node_store.proofs.Helds.{blank_set}
use Rattle.node_store.proofs.Counting.{all_nodes}

-- other rows of the same nodes
pub rearranged : (m : Memory) (h : Held) (qs rs : List Placed) (g : Placed) → HoldAll m.nodes rs → ((j : ℕ) → occ_all j rs ≡ occ_all j qs) → Work m h qs g → Work m h rs g
rearranged m h qs rs g r e w = record { terms = w.terms; rows = r; begins = w.begins; row = w.row; once = λ j. let o = w.once j in let z = e j in omega arith; blank = w.blank; within = w.within; count = w.count }

pub with_none : (m : Memory) (h : Held) (qs : List Placed) (g : Placed) → Work m h qs g → Work m h (none ∷ qs) g
with_none m h qs g w = rearranged m h qs (none ∷ qs) g (tt, w.rows) (λ j. omega arith) w

pub without_none : (m : Memory) (h : Held) (qs : List Placed) (g : Placed) → Work m h (none ∷ qs) g → Work m h qs g
without_none m h qs g w = rearranged m h (none ∷ qs) qs g w.rows.1 (λ j. omega arith) w

-- the first two change places
pub swapped : (m : Memory) (h : Held) (a b : Placed) (qs : List Placed) (g : Placed) → Work m h (a ∷ b ∷ qs) g → Work m h (b ∷ a ∷ qs) g
swapped m h a b qs g w = rearranged m h (a ∷ b ∷ qs) (b ∷ a ∷ qs) g (w.rows.1.0, (w.rows.0, w.rows.1.1)) (λ j. omega arith) w

hold_to_front : (ns : List Node) (xs ys : List Placed) (q : Placed) → HoldAll ns (xs ++ q ∷ ys) → Holds ns q × HoldAll ns (xs ++ ys)
hold_to_front ns [] ys q h = h
hold_to_front ns (x ∷ xs) ys q h = let (a, b) = hold_to_front ns xs ys q h.1 in (a, (h.0, b))

hold_from_front : (ns : List Node) (xs ys : List Placed) (q : Placed) → Holds ns q → HoldAll ns (xs ++ ys) → HoldAll ns (xs ++ q ∷ ys)
hold_from_front ns [] ys q a h = (a, h)
hold_from_front ns (x ∷ xs) ys q a h = (h.0, hold_from_front ns xs ys q a h.1)

occ_middle : (xs ys : List Placed) (q : Placed) (j : ℕ) → occ_all j (xs ++ q ∷ ys) ≡ occ_all j (q ∷ (xs ++ ys))
occ_middle [] ys q j = refl
occ_middle (x ∷ xs) ys q j = let e = occ_middle xs ys q j in omega arith

-- a row goes out of the middle to the front, and back
pub to_front : (m : Memory) (h : Held) (xs ys : List Placed) (q g : Placed) → Work m h (xs ++ q ∷ ys) g → Work m h (q ∷ (xs ++ ys)) g
to_front m h xs ys q g w = rearranged m h (xs ++ q ∷ ys) (q ∷ (xs ++ ys)) g (hold_to_front m.nodes xs ys q w.rows) (λ j. sym (occ_middle xs ys q j)) w

pub from_front : (m : Memory) (h : Held) (xs ys : List Placed) (q g : Placed) → Work m h (q ∷ (xs ++ ys)) g → Work m h (xs ++ q ∷ ys) g
from_front m h xs ys q g w = rearranged m h (q ∷ (xs ++ ys)) (xs ++ q ∷ ys) g (hold_from_front m.nodes xs ys q w.rows.0 w.rows.1) (λ j. occ_middle xs ys q j) w

-- another node is written at the first place of a row
pub record Written (m : Memory) (h : Held) (i : ℕ) (ks us : Placed) (qs : List Placed) (g : Placed) (x : Node) : Type 0 where
  pub terms : AllHeld (set m.nodes i x) h
  pub within : i < length (set m.nodes i x)
  pub is : get_or (set m.nodes i x) i vacant ≡ x
  pub under : Holds (set m.nodes i x) ks
  pub later : Holds (set m.nodes i x) us
  pub rows : HoldAll (set m.nodes i x) qs
  pub row : Holds (set m.nodes i x) g
  pub blank : (j : ℕ) → m.fresh ≤ j → get_or (set m.nodes i x) j vacant ≡ vacant
  pub long : length (set m.nodes i x) ≡ length m.nodes

module _ (m : Memory) (h : Held) (i : ℕ) (s : Option Symbol) (ks : Placed) where
  pub write_first : (us : Placed) (qs : List Placed) (g : Placed) (x : Node) → Work m h (at i s ks us ∷ qs) g → Written m h i ks us qs g x
  write_first us qs g x w =
      let o = w.once i in
      let y = hit_self i in
      let l = length-set m.nodes i x in
      record {
        terms = keep_all_set m.nodes i x h (omega arith) w.terms;
        within = omega (arith, w.rows.0.0);
        is = get_or-set_same m.nodes i x vacant w.rows.0.0;
        under = keep_set m.nodes i x ks (omega arith) w.rows.0.2;
        later = keep_set m.nodes i x us (omega arith) w.rows.0.3;
        rows = keep_rows_set m.nodes i x qs (omega arith) w.rows.1;
        row = keep_set m.nodes i x g (omega arith) w.row;
        blank = blank_set m.nodes m.fresh i x (omega arith) w.blank;
        long = l;
      }

  -- its first node is freed alone
  pub node_freed : (us : Placed) (qs : List Placed) (g : Placed) → length m.nodes ≤ 65536 → Work m h (at i s ks us ∷ qs) g → Work (freed_at m i) h (ks ∷ us ∷ qs) (at i None none g)
  node_freed us qs g few w =
      let x = write_first us qs g (record { symbol = None; first = None; next = m.freed }) w in
      let l = x.long in
      let all = all_nodes m h (at i s ks us ∷ qs) g w in
      record {
        terms = x.terms;
        rows = (x.under, (x.later, x.rows));
        begins = refl;
        row = (x.within, x.is ∙ (λ d. record { symbol = None; first = None; next = sym w.begins d }), tt, x.row);
        once = λ j. let o = w.once j in omega arith;
        blank = x.blank;
        within = omega (arith, w.within);
        count = omega (arith, w.count);
      }

  -- its later siblings are a row of their own
  pub row_ended : (us : Placed) (qs : List Placed) (g : Placed) → Work m h (at i s ks us ∷ qs) g → Work (ended m i) h (at i s ks none ∷ us ∷ qs) g
  row_ended us qs g w =
      let x = write_first us qs g (record { symbol = (get_or m.nodes i vacant).symbol; first = (get_or m.nodes i vacant).first; next = None }) w in
      let l = x.long in
      record {
        terms = x.terms;
        rows = ((x.within, x.is ∙ (λ d. record { symbol = (w.rows.0.1 d).symbol; first = (w.rows.0.1 d).first; next = None }), x.under, tt), (x.later, x.rows));
        begins = w.begins;
        row = x.row;
        once = λ j. let o = w.once j in omega arith;
        blank = x.blank;
        within = omega (arith, w.within);
        count = omega (arith, w.count);
      }

  -- a row goes behind its only term
  pub row_linked : (b : Placed) (qs : List Placed) (g : Placed) (l : Option ℕ) → link b ≡ l → Work m h (at i s ks none ∷ b ∷ qs) g → Work (linked m i l) h (at i s ks b ∷ qs) g
  row_linked b qs g l e w =
      let x = write_first none (b ∷ qs) g (record { symbol = (get_or m.nodes i vacant).symbol; first = (get_or m.nodes i vacant).first; next = l }) w in
      let n = x.long in
      record {
        terms = x.terms;
        rows = ((x.within, x.is ∙ (λ d. record { symbol = (w.rows.0.1 d).symbol; first = (w.rows.0.1 d).first; next = sym e d }), x.under, x.rows.0), x.rows.1);
        begins = w.begins;
        row = x.row;
        once = λ j. let o = w.once j in omega arith;
        blank = x.blank;
        within = omega (arith, w.within);
        count = omega (arith, w.count);
      }

  -- its only term is given back
  pub row_given : (qs : List Placed) (g : Placed) (n : ℕ) → n ≡ 1 + size ks → length m.nodes ≤ 65536 → Work m h (at i s ks none ∷ qs) g → Work (given m i n) h qs (at i None ks g)
  row_given qs g n e few w =
      let x = write_first none qs g (record { symbol = None; first = (get_or m.nodes i vacant).first; next = m.freed }) w in
      let l = x.long in
      let all = all_nodes m h (at i s ks none ∷ qs) g w in
      record {
        terms = x.terms;
        rows = x.rows;
        begins = refl;
        row = (x.within, x.is ∙ (λ d. record { symbol = None; first = (w.rows.0.1 d).first; next = sym w.begins d }), x.under, x.row);
        once = λ j. let o = w.once j in omega arith;
        blank = x.blank;
        within = omega (arith, w.within);
        count = omega (arith, w.count);
      }
