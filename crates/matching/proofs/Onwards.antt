-- Rows that are still to be gone through, and where they begin.
use Rattle.std.proofs.Common.{◌≡◌, ℕ, ◌<◌, ◌≤◌, List, [], ◌∷◌, ◌++◌, length, Some, None, Option, Ok, Err, Result, OnOk, OnErr, refl, sym, ap, ◌∙◌, subst, arith}
use Rattle.std.proofs.lemmas.Bool.{false≢true}
use Rattle.std.specs.List.{cons_option}
use Rattle.fixed_vec.specs.declared.Full.{Full}
use Rattle.node_store.specs.Placed.{Placed, none, at, link}
use Rattle.node_store.specs.Work.{size_all}
use Rattle.matching.specs.Onward.{Ahead}

-- where the rows begin that have a node
abbrev pub links : List Placed → List ℕ
links [] = []
links (q ∷ qs) = cons_option (link q) (links qs)

pub links_few : (qs : List Placed) → length (links qs) ≤ size_all qs
links_few [] = omega arith
links_few (none ∷ qs) = let h = links_few qs in omega arith
links_few (at i s ks us ∷ qs) = let h = links_few qs in omega arith

-- the first place to come, and there is room for one more to be put off
pub ahead_some : (p : ℕ) (current : Option ℕ) (later ps : List ℕ) → current ≡ Some p → Ahead current later ps → ps ≡ p ∷ later
ahead_some p (Some r) later ps e a = let z : r ≡ p = cc in a ∙ ap (λ n. n ∷ later) z
ahead_some p None later ps e a = absurd (false≢true cc)

pub ahead_none : (current : Option ℕ) (later ps : List ℕ) → current ≡ None → Ahead current later ps → (later ≡ []) × (ps ≡ [])
ahead_none None later ps e a = a
ahead_none (Some r) later ps e a = absurd (false≢true cc)

-- where no place is to come, none was put off
pub ahead_end : (current : Option ℕ) (later ps : List ℕ) → ps ≡ [] → Ahead current later ps → later ≡ []
ahead_end None later ps e a = a.0
ahead_end (Some r) later ps e a = absurd (false≢true cc)

-- at the start only the first row is to come
pub ahead_first : (q : Placed) (first : Option ℕ) (later : List ℕ) → link q ≡ first → later ≡ [] → Ahead first later (links (q ∷ []))
ahead_first q first later e n = subst (λ l. Ahead first l (links (q ∷ []))) (sym n) (subst (λ f. Ahead f [] (links (q ∷ []))) e (go q))
  where
    go : (q : Placed) → Ahead (link q) [] (links (q ∷ []))
    go none = (refl, refl)
    go (at i s ks us) = refl

-- a place that is listed; or there was no room for it
pub listed : (n : ℕ) (order order′ : List ℕ) (p : ℕ) (r : Result (Unit {0}) Full) → length order < n → OnOk r (order′ ≡ order ++ p ∷ []) → OnErr r (n ≤ length order) → order′ ≡ order ++ p ∷ []
listed n order order′ p (Ok u) h a b = a
listed n order order′ p (Err x) h a b = absurd (let y : ⊥ = omega arith in y)
