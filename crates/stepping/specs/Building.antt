-- Making a right side's row of arguments.
use Rattle.std.specs.Prelude.{◌≡◌, ℕ, suc, ◌+◌, ◌≤◌, List, [], ◌∷◌, length, Some, Option, slice_index_or}
use Rattle.terms.specs.Term.{Term, symbols}
use Rattle.terms.specs.Signature.{Sig}
use Rattle.terms.specs.Substitution.{fill}
use Rattle.terms.specs.Rule.{Rule, RuleOf}
use Rattle.traversal.specs.Walks.{most_symbols}
use Rattle.rewriting.specs.Bindings.{Bindings, bound}
use Rattle.node_store.specs.Memory.{Memory, linked}
use Rattle.node_store.specs.Placed.{Placed, link, Held}
use Rattle.node_store.specs.Work.{Work, Joins, size_all}
use Rattle.node_store.specs.Loading.{arguments_of}
use Rattle.compiled.specs.Symbols.{parts_under, has_variable}
use Rattle.compiled.specs.declared.Plan.{Plan}
use Rattle.compiled.specs.declared.Source.{Source}
use Rattle.compiled.specs.declared.Source.TheVariants.{Made, Moved, Copied}
use Rattle.compiled.specs.Plans.{Planned}
use Rattle.matching.specs.Peeling.{Peeled}
use Rattle.stepping.specs.Copying.{Copies}
use Rattle.stepping.specs.Growing.{Grown}
use Rattle.stepping.specs.Keeping.{rows_for}

-- a piece is made, over one row and before another; or the part that it stands for is put before the second row, or a copy of it is
abbrev pub MadeFrom : Memory → Source → Option ℕ → Option ℕ → List ℕ → Memory → Option ℕ → Type 0
MadeFrom m (Made s) first next places k r = Joins m s first next k r
MadeFrom m (Moved n) first next places k r = (k ≡ linked m (slice_index_or places n 0) next) × (r ≡ Some (slice_index_or places n 0))
MadeFrom m (Copied n) first next places k r = Copies m (slice_index_or places n 0) next k r

-- the rows of the variables that are among some parts
abbrev pub rows_in : List Term → Bindings → List Placed → List Placed
rows_in parts = rows_for (λ x. has_variable x parts)

-- the row of arguments of a right side stands beside the held terms; of the rows of variables only one is left, that of a right side which is a variable
pub record BuiltRow (m : Memory) (h : Held) (right : Term) (kept : List Placed) (v : Bindings) (k : Memory) (made : List ℕ) (r : Option (Option ℕ)) : Type 0 where
  pub row : Placed
  pub gone : Placed
  pub answer : r ≡ Some (link row)
  pub grown : Grown (bound v) (arguments_of right) row made
  pub work : Work k h (row ∷ rows_in (right ∷ []) v kept) gone
  pub long : length k.nodes ≡ length m.nodes

-- that is so for the rule of the plan, if the rows of the variables that its right side has stand there, and there are the nodes
abbrev pub Builds : Memory → Plan → List ℕ → Memory → List ℕ → Option (Option ℕ) → Type 0
Builds m p places k made r =
    (sig : Sig) (rule : Rule) → RuleOf sig rule → Planned rule p → (kp : Placed) (kept : List Placed) (v : Bindings) → Peeled (arguments_of rule.left) kp places kept v
    → (h : Held) (g : Placed) → Work m h (rows_in (rule.right ∷ parts_under rule.right) v kept) g → length m.nodes ≤ most_symbols
    → symbols (fill (bound v) rule.right) ≤ suc (m.free + size_all (rows_in (rule.right ∷ parts_under rule.right) v kept))
    → BuiltRow m h rule.right kept v k made r
