-- The rows that a left side's variables stand for.
use Rattle.std.specs.Prelude.{ℕ, Bool, cond, List, [], ◌∷◌}
use Rattle.rewriting.specs.Bindings.{Bindings}
use Rattle.node_store.specs.Placed.{Placed}

-- the rows of those variables that are asked for, where the bindings have a row each
abbrev pub rows_for : (ℕ → Bool) → Bindings → List Placed → List Placed
rows_for f [] kept = []
rows_for f (b ∷ v) [] = []
rows_for f (b ∷ v) (q ∷ kept) = cond (f b.0) (q ∷ rows_for f v kept) (rows_for f v kept)
