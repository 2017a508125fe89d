-- Whether there are the nodes that a step needs.
use Rattle.std.specs.Prelude.{◌≡◌, ℕ, suc, ◌+◌, ◌≤◌, Bool, List, map, nat_le, slice_index_or}
use Rattle.fixed_vec.specs.FixedVec.{items}
use Rattle.terms.specs.Term.{symbols}
use Rattle.terms.specs.Signature.{Sig}
use Rattle.terms.specs.Substitution.{fill}
use Rattle.terms.specs.Rule.{Rule, RuleOf}
use Rattle.traversal.specs.Walks.{most_symbols}
use Rattle.rewriting.specs.Bindings.{Bindings, bound}
use Rattle.node_store.specs.Memory.{Memory}
use Rattle.node_store.specs.Placed.{Placed, Holds, size}
use Rattle.node_store.specs.Loading.{arguments_of}
use Rattle.compiled.specs.declared.Plan.{Plan}
use Rattle.compiled.specs.Plans.{Planned}
use Rattle.matching.specs.Peeling.{Peeled, size_at}

-- the sizes of the rows whose variables the right side does not have
abbrev pub dropped_sizes : Plan → List ℕ → List Placed → List ℕ
dropped_sizes p places kept = map (λ k. size_at kept (slice_index_or places k 0)) (items p.dropped)

-- the answer is whether the symbols after the step are at most those before it and the free nodes together
abbrev pub Roomed : Memory → Plan → List ℕ → List ℕ → Bool → Type 0
Roomed m p places sizes b =
    (sig : Sig) (r : Rule) (ks : Placed) (kept : List Placed) (v : Bindings) → RuleOf sig r → Planned r p → Holds m.nodes ks → suc (size ks) + m.free ≤ most_symbols → Peeled (arguments_of r.left) ks places kept v
    → (sizes ≡ dropped_sizes p places kept) × (b ≡ nat_le (symbols (fill (bound v) r.right)) (m.free + suc (size ks)))
