use Rattle.std.proofs.Common.{◌≤◌, List, length}
use Rattle.fixed_vec.specs.FixedVec.{content}
use Rattle.terms.specs.Term.{Term, cons, nil}
use Rattle.node_store.specs.Memory.{memory}
use Rattle.node_store.specs.Placed.{Placed, Held}
use Rattle.node_store.specs.Work.{Work}
use Rattle.node_store.specs.Loading.{Visits}
use Rattle.node_store.specs.Tracing.{Building}
use Rattle.node_store.proofs.loading.build.Given as goal

abbrev pub invariant-loop-k : goal.invariant-loop-k
invariant-loop-k g l = (h : Held) (qs : List Placed) (f : Placed) (t : Term) → Work (memory l.initial.store) h qs f → Visits (g.V.TermView.answers l.view) (cons t nil) (content l.initial.order) nil → length (content l.initial.order) ≤ (memory l.initial.store).free → length (memory l.initial.store).nodes ≤ 65536 → Building (g.V.TermView.answers l.view) (memory l.initial.store) h qs t (length (content l.initial.order)) l._k (content l.order) (memory l.store) l.head
