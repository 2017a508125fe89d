use Rattle.std.proofs.Common.{◌≡◌, ◌≤◌, []}
use Rattle.fixed_vec.specs.FixedVec.{content}
use Rattle.terms.specs.Term.{Term, symbols}
use Rattle.terms.specs.View.{Stands}
use Rattle.traversal.specs.Walks.{most_symbols}
use Rattle.node_store.specs.Tracing.{Tracing}
use Rattle.node_store.proofs.loading.trace.Given as goal

abbrev pub invariant-loop-k : goal.invariant-loop-k
invariant-loop-k g l = (t : Term) → Stands (g.V.TermView.answers l.view) l.place t → symbols t ≡ l.n → l.n ≤ most_symbols → content l.initial.order ≡ [] → Tracing (g.V.TermView.answers l.view) t l.n l._k (content l.order) (content l.stack)
