use Rattle.std.proofs.Common.{◌≤◌, List, ◌∷◌, length}
use Rattle.terms.specs.declared.symbol.Symbol.{Symbol}
use Rattle.std.specs.Prelude.{Option}
use Rattle.terms.specs.Term.{Term, symbols}
use Rattle.traversal.specs.Walks.{most_symbols}
use Rattle.fixed_vec.specs.FixedVec.{items, content}
use Rattle.node_store.specs.Memory.{memory}
use Rattle.node_store.specs.Placed.{Placed, none, at, IsTerm, Held}
use Rattle.node_store.specs.Work.{Work}
use Rattle.stepping.proofs.Copies.{Copying}
use Rattle.stepping.proofs.copying.copy.Given as goal

abbrev pub invariant-loop-n : goal.invariant-loop-n
invariant-loop-n l =
    (h : Held) (s : Option Symbol) (ks : Placed) (t : Term) (b : Placed) (qs : List Placed) (g : Placed) → Work (memory l.initial.store) h (b ∷ at l.place s ks none ∷ qs) g → IsTerm s ks t → symbols t ≤ (memory l.initial.store).free → length (memory l.initial.store).nodes ≤ most_symbols
    → Copying (memory l.initial.store) h (b ∷ at l.place s ks none ∷ qs) ks l._n-end l._n (memory l.store) (items l.scratch.order) (content l.scratch.stack)
