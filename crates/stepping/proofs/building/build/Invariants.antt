use Rattle.std.proofs.Common.{suc, ◌+◌, ◌≤◌, List, ◌∷◌, length}
use Rattle.fixed_vec.specs.FixedVec.{items, content}
use Rattle.terms.specs.Term.{symbols}
use Rattle.terms.specs.Signature.{Sig}
use Rattle.terms.specs.Substitution.{fill}
use Rattle.terms.specs.Rule.{Rule, RuleOf}
use Rattle.traversal.specs.Walks.{most_symbols}
use Rattle.rewriting.specs.Bindings.{Bindings, bound}
use Rattle.node_store.specs.Memory.{memory}
use Rattle.node_store.specs.Placed.{Placed, Held}
use Rattle.node_store.specs.Work.{Work, size_all}
use Rattle.node_store.specs.Loading.{arguments_of}
use Rattle.compiled.specs.Symbols.{parts_under}
use Rattle.compiled.specs.Plans.{Planned}
use Rattle.matching.specs.Peeling.{Peeled}
use Rattle.stepping.specs.Building.{rows_in}
use Rattle.stepping.proofs.Buildings.{Building}
use Rattle.stepping.proofs.building.build.Given as goal

abbrev pub invariant-loop-i : goal.invariant-loop-i
invariant-loop-i l =
    (sig : Sig) (rule : Rule) → RuleOf sig rule → Planned rule l.plan → (kp : Placed) (kept : List Placed) (v : Bindings) → Peeled (arguments_of rule.left) kp (items l.places) kept v
    → (h : Held) (g : Placed) → Work (memory l.initial.store) h (rows_in (rule.right ∷ parts_under rule.right) v kept) g → length (memory l.initial.store).nodes ≤ most_symbols
    → symbols (fill (bound v) rule.right) ≤ suc ((memory l.initial.store).free + size_all (rows_in (rule.right ∷ parts_under rule.right) v kept))
    → Building (memory l.initial.store) l.plan rule kept v h l.i (memory l.store) (content l.rows) (content l.made)
