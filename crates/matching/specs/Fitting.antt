-- When a node is as a check says.
use Rattle.std.specs.Prelude.{◌≡◌, ℕ, Bool, List, [], ◌∷◌, Some, None, Option, is_some, slice_index_or}
use Rattle.terms.specs.declared.node.Node.{Node}
use Rattle.terms.specs.declared.symbol.Symbol.{Symbol}
use Rattle.terms.specs.Nodes.{vacant}
use Rattle.compiled.specs.declared.Check.{Check}

-- where a variable stands anything fits; else the symbol does, if there are arguments exactly if there should be
abbrev pub FitsFront : Option Symbol → Bool → Node → Type 0
FitsFront None b x = Unit {0}
FitsFront (Some s) b x = (x.symbol ≡ Some s) × (is_some x.first ≡ b)

-- so does the front, and there are later siblings exactly if there should be
abbrev pub Fits : Check → Node → Type 0
Fits c x = FitsFront c.symbol c.has_first x × (is_some x.next ≡ c.has_next)

-- a row begins as the first check says, or there is neither
abbrev pub Begins : List Node → List Check → Option ℕ → Type 0
Begins ns [] None = Unit {0}
Begins ns [] (Some p) = ⊥
Begins ns (c ∷ cs) None = ⊥
Begins ns (c ∷ cs) (Some p) = Fits c (slice_index_or ns p vacant)
