-- Rows of a right side that are made, and those whose siblings or first node are still to be made.
use Rattle.std.proofs.Common.{◌≡◌, ℕ, ◌≤◌, Bool, true, false, List, [], ◌∷◌, ◌++◌, length, Some, None, Option, is_some, refl, ◌∙◌, arith}
use Rattle.std.specs.List.{cons_option}
use Rattle.terms.specs.Term.{Term, variable, instrument, apply, Terms, nil, cons, how_many}
use Rattle.terms.specs.Substitution.{Substitution, fill_all}
use Rattle.node_store.specs.Memory.{Memory}
use Rattle.node_store.specs.Placed.{Placed, none, at, link, AreTerms, Held}
use Rattle.node_store.specs.Work.{Work}
use Rattle.node_store.specs.Loading.{arguments_of}
use Rattle.node_store.proofs.Rows.{with_none}
use Rattle.compiled.specs.Symbols.{any, has_arguments}
use Rattle.matching.proofs.Onwards.{links}
use Rattle.stepping.specs.Copying.{Taken}
use Rattle.stepping.specs.Growing.{Grown, nothing, part, leaf, node}
use Rattle.stepping.proofs.Reading.{Skips, same, one}

-- each of the rows, and all their places
pub data GrownAll (σ : Substitution) : List Terms → List Placed → List ℕ → Type 0 where
  no_row : GrownAll σ [] [] []
  row : {ts : Terms} {q : Placed} {ps rs : List ℕ} {pss : List Terms} {qs : List Placed} → Grown σ ts q ps → GrownAll σ pss qs rs → GrownAll σ (ts ∷ pss) (q ∷ qs) (ps ++ rs)

-- such rows are loose, beside others, and a stack has the links to them
pub record Forest (σ : Substitution) (m : Memory) (h : Held) (others : List Placed) (pss : List Terms) (stack made : List ℕ) : Type 0 where
  pub rows : List Placed
  pub gone : Placed
  pub grown : GrownAll σ pss rows made
  pub stacked : stack ≡ links rows
  pub work : Work m h (rows ++ others) gone

module _ (σ : Substitution) (m : Memory) (h : Held) (others : List Placed) (stack made : List ℕ) where
  pub forest_skips : (pss rss : List Terms) → Skips nil pss rss → Forest σ m h others rss stack made → Forest σ m h others pss stack made
  forest_skips pss rss same f = f
  forest_skips pss rss (one s) f = forest_skips pss (nil ∷ rss) s (record { rows = none ∷ f.rows; gone = f.gone; grown = row nothing f.grown; stacked = f.stacked; work = with_none m h (f.rows ++ others) f.gone f.work })

-- what is taken off the stack is the link to the first row
pub taken_link : (b : Bool) (q : Placed) (rest before after : List ℕ) (r : Option ℕ) → before ≡ cons_option (link q) rest → b ≡ is_some (link q) → Taken b before after r → (r ≡ link q) × (after ≡ rest)
taken_link true none rest before after r e n t = absurd (let z : ⊥ = cc in z)
taken_link true (at i s ks us) rest before after None e n t = absurd (let z : ⊥ = cc in z)
taken_link true (at i s ks us) rest before after (Some x) e n t = (cc, cc)
taken_link false none rest before after r e n t = (t.1, t.0 ∙ e)
taken_link false (at i s ks us) rest before after r e n t = absurd (let z : ⊥ = cc in z)

-- two links more make no stack shorter
pub longer : (o p : Option ℕ) (l : List ℕ) → length l ≤ length (cons_option o (cons_option p l))
longer None None l = omega arith
longer None (Some y) l = omega arith
longer (Some x) None l = omega arith
longer (Some x) (Some y) l = omega arith

-- a row begins where there are terms
pub grown_any : (σ : Substitution) (ts : Terms) (q : Placed) (ps : List ℕ) → Grown σ ts q ps → any ts ≡ is_some (link q)
grown_any σ ts q ps nothing = refl
grown_any σ ts q ps (part i g) = refl
grown_any σ ts q ps (leaf g) = refl
grown_any σ ts q ps (node n f g) = refl

pub has_any : (t : Term) → has_arguments t ≡ any (arguments_of t)
has_any (variable x) = refl
has_any (instrument n) = refl
has_any (apply f ts) = refl

pub grown_nil : (σ : Substitution) (q : Placed) (ps : List ℕ) → Grown σ nil q ps → (q ≡ none) × (ps ≡ [])
grown_nil σ q ps nothing = (refl, refl)

pub fill_many : (σ : Substitution) (ts : Terms) → how_many (fill_all σ ts) ≡ how_many ts
fill_many σ nil = refl
fill_many σ (cons t ts) = let e = fill_many σ ts in omega arith

-- the row has the terms filled
pub grown_terms : (σ : Substitution) (ts : Terms) (q : Placed) (ps : List ℕ) → Grown σ ts q ps → AreTerms q (fill_all σ ts)
grown_terms σ ts q ps nothing = tt
grown_terms σ ts q ps (part {us = us} {ts = ts′} {ps = ps′} i g) = (i, grown_terms σ ts′ us ps′ g)
grown_terms σ ts q ps (leaf {us = us} {ts = ts′} {ps = ps′} g) = ((refl, refl), grown_terms σ ts′ us ps′ g)
grown_terms σ ts q ps (node {ks = ks} {us = us} {fs = fs} {ts = ts′} {ps = ps′} {rs = rs} n f g) = ((refl, omega (arith, fill_many σ fs), grown_terms σ fs ks ps′ f), grown_terms σ ts′ us rs g)
