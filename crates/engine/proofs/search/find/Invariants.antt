use Rattle.std.proofs.Common.{List, Option}
use Rattle.terms.specs.declared.symbol.Symbol.{Symbol}
use Rattle.terms.specs.Term.{Term}
use Rattle.terms.specs.Signature.{Sig}
use Rattle.terms.specs.Rule.{Rule}
use Rattle.rewriting.specs.Rules.{RulesOf}
use Rattle.node_store.specs.Memory.{memory}
use Rattle.node_store.specs.Placed.{Placed, IsTerm}
use Rattle.compiled.specs.Compiled.{IsCompiled}
use Rattle.engine.specs.Searching.{Shows}
use Rattle.engine.proofs.Candidates.{Trying}
use Rattle.engine.proofs.search.find.Given as goal

abbrev pub invariant-loop-n : goal.invariant-loop-n
invariant-loop-n l =
    (sig : Sig) (rules : List Rule) → RulesOf sig rules → IsCompiled rules l.rules → (s : Option Symbol) (ks : Placed) (t : Term) → Shows (memory l.store).nodes l.place s ks → IsTerm s ks t → Trying rules t l._n l.rest
