-- Variables and the terms that are bound to them, as matching and unification find them.
use Rattle.std.specs.Prelude.{ℕ, cond, List, [], ◌∷◌, ◌++◌, ◌==◌}
use Rattle.std.proofs.Math.Option.{Option, none, some}
use Rattle.terms.specs.Term.{Term, variable}
use Rattle.terms.specs.Substitution.{Substitution}

abbrev pub Bindings : Type 0
Bindings = List (ℕ × Term)

-- as a substitution: a variable that is not bound stays as it is
abbrev pub bound : Bindings → Substitution
bound [] x = variable x
bound (b ∷ m) x = cond (x == b.0) b.1 (bound m x)

-- both lists of bindings, if there are both
abbrev pub joined : Option Bindings → Option Bindings → Option Bindings
joined none n = none
joined (some m) none = none
joined (some m) (some n) = some (m ++ n)
