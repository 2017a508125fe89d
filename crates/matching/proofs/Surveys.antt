-- A survey under way.
use Rattle.std.proofs.Common.{◌≡◌, ℕ, ◌+◌, ◌≤◌, List, [], ◌∷◌, ◌++◌, append_assoc, append-nil, length, reverse, get_or, Some, None, Option, Result, OnOk, OnErr, refl, sym, ap, ◌∙◌, subst, arith}
use Rattle.std.proofs.lemmas.Bool.{false≢true}
use Rattle.std.proofs.lemmas.List.{length_push, length-reverse}
use Rattle.std.specs.List.{cons_option}
use Rattle.fixed_vec.specs.declared.Full.{Full}
use Rattle.terms.specs.declared.node.Node.{Node}
use Rattle.terms.specs.declared.symbol.Symbol.{Symbol}
use Rattle.terms.specs.Nodes.{vacant}
use Rattle.node_store.specs.Placed.{Placed, none, at, link, Holds, size}
use Rattle.node_store.specs.Work.{HoldAll, size_all}
use Rattle.matching.specs.Onward.{Ahead, Goes}
use Rattle.matching.specs.Surveying.{in_order}
use Rattle.matching.proofs.Onwards.{links, links_few, ahead_some, ahead_none, ahead_end, ahead_first, listed}

-- the places of the rows' nodes, row by row
abbrev pub all_in_order : List Placed → List ℕ
all_in_order [] = []
all_in_order (q ∷ qs) = in_order q ++ all_in_order qs

-- k places of the row are listed, and the others are those of rows that are to come
pub record Surveying (ns : List Node) (q : Placed) (k : ℕ) (order : List ℕ) (current : Option ℕ) (later : List ℕ) : Type 0 where
  pub rows : List Placed
  pub holds : HoldAll ns rows
  pub places : order ++ all_in_order rows ≡ in_order q
  pub ahead : Ahead current later (links rows)
  pub many : length order ≡ k
  pub sum : k + size_all rows ≡ size q

pub survey_starts : (ns : List Node) (q : Placed) (first : Option ℕ) (order later : List ℕ) → Holds ns q → link q ≡ first → order ≡ [] → later ≡ [] → Surveying ns q 0 order first later
survey_starts ns q first order later h e o n = record {
  rows = q ∷ [];
  holds = (h, tt);
  places = ap (λ l. l ++ (in_order q ++ [])) o ∙ append-nil (in_order q);
  ahead = ahead_first q first later e n;
  many = ap length o;
  sum = omega arith;
}

-- the rows with those behind their first node in its place
record Opened (ns : List Node) (p : ℕ) (rows : List Placed) (ps : List ℕ) : Type 0 where
  symbol : Option Symbol
  below : Placed
  beside : Placed
  others : List Placed
  node : get_or ns p vacant ≡ record { symbol = symbol; first = link below; next = link beside }
  holds : HoldAll ns (below ∷ beside ∷ others)
  links : links others ≡ ps
  places : all_in_order rows ≡ p ∷ all_in_order (below ∷ beside ∷ others)
  sum : size_all rows ≡ 1 + size_all (below ∷ beside ∷ others)

opened : (ns : List Node) (p : ℕ) (rows : List Placed) (ps : List ℕ) → HoldAll ns rows → links rows ≡ p ∷ ps → Opened ns p rows ps
opened ns p [] ps h e = absurd (false≢true cc)
opened ns p (none ∷ rows) ps h e =
    let o = opened ns p rows ps h.1 e in
    record { symbol = o.symbol; below = o.below; beside = o.beside; others = o.others; node = o.node; holds = o.holds; links = o.links; places = o.places; sum = let z = o.sum in omega arith }
opened ns p (at i s ks us ∷ rows) ps h e =
    let z : i ≡ p = cc in
    record {
      symbol = s;
      below = ks;
      beside = us;
      others = rows;
      node = subst (λ n. get_or ns n vacant ≡ record { symbol = s; first = link ks; next = link us }) z h.0.1;
      holds = (h.0.2, (h.0.3, h.1));
      links = cc;
      places = ap (λ n. n ∷ (in_order ks ++ in_order us ++ all_in_order rows)) z ∙ ap (λ l. p ∷ l) (append_assoc (in_order ks) (in_order us) (all_in_order rows));
      sum = omega arith;
    }

module _ (ns : List Node) (q : Placed) (n k p : ℕ) (current current′ : Option ℕ) (later later′ order order′ : List ℕ) (r : Result (Unit {0}) Full) (x : Node) where
  pub survey_step : size q ≤ n → current ≡ Some p → x ≡ get_or ns p vacant → OnOk r (order′ ≡ order ++ p ∷ []) → OnErr r (n ≤ length order) → Goes n x.first x.next later later′ current′
      → Surveying ns q k order current later → Surveying ns q (k + 1) order′ current′ later′
  survey_step few is node put full goes w =
      let e = ahead_some p current later (links w.rows) is w.ahead in
      let o = opened ns p w.rows later w.holds e in
      let many = links_few (o.below ∷ o.beside ∷ o.others) in
      let long = links_few o.others in
      let z = ap length o.links in
      let sum = w.sum in
      let m = w.many in
      let osum = o.sum in
      let new = listed n order order′ p r (omega arith) put full in
      let at_node = node ∙ o.node in
      record {
        rows = o.below ∷ o.beside ∷ o.others;
        holds = o.holds;
        places = ap (λ l. l ++ all_in_order (o.below ∷ o.beside ∷ o.others)) new ∙ append_assoc order (p ∷ []) (all_in_order (o.below ∷ o.beside ∷ o.others)) ∙ ap (λ l. order ++ l) (sym o.places) ∙ w.places;
        ahead = subst (λ l. Ahead current′ later′ (cons_option (link o.below) (cons_option (link o.beside) l))) (sym o.links) (subst (λ (y : Node). Ahead current′ later′ (cons_option y.first (cons_option y.next later))) at_node (goes (omega arith)));
        many = let l = ap length new ∙ length_push order p in omega arith;
        sum = omega arith;
      }

none_left : (rows : List Placed) → links rows ≡ [] → all_in_order rows ≡ []
none_left [] e = refl
none_left (none ∷ rows) e = none_left rows e
none_left (at i s ks us ∷ rows) e = absurd (false≢true cc)

empty : {A : Type 0} (l : List A) → length l ≤ 0 → l ≡ []
empty [] h = refl
empty (x ∷ l) h = absurd (let y : ⊥ = omega arith in y)

-- a stack without items
reversed_none : (l : List ℕ) → reverse l ≡ [] → l ≡ []
reversed_none l e = empty l (let a = length-reverse l in let b = ap length e in omega arith)

module _ (ns : List Node) (q : Placed) (k : ℕ) (current : Option ℕ) (later order : List ℕ) where
  pub survey_ends : current ≡ None → Surveying ns q k order current (reverse later) → (order ≡ in_order q) × (later ≡ [])
  survey_ends e w =
      let (a, b) = ahead_none current (reverse later) (links w.rows) e w.ahead in
      (sym (append-nil order) ∙ ap (λ l. order ++ l) (sym (none_left w.rows b)) ∙ w.places, reversed_none later a)

  pub survey_full : (n : ℕ) → size q ≤ n → n ≤ k → Surveying ns q k order current (reverse later) → (order ≡ in_order q) × (later ≡ [])
  survey_full n few all w =
      let a = links_few w.rows in
      let s = w.sum in
      let b : links w.rows ≡ [] = empty (links w.rows) (omega arith) in
      (sym (append-nil order) ∙ ap (λ l. order ++ l) (sym (none_left w.rows b)) ∙ w.places, reversed_none later (ahead_end current (reverse later) (links w.rows) b w.ahead))
