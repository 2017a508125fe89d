-- Vectors in an array.
use Rattle.std.proofs.Common.{◌≡◌, ℕ, ◌<◌, Ok, Err, Result, List, [], ◌∷◌, length, ap, ◌∙◌, arith}
use Rattle.std.proofs.Math.Seq.{take-set-lt}
use Rattle.fixed_vec.specs.declared.Full.{Full}
use Rattle.fixed_vec.specs.FixedVec.{Added}

-- an item in the place of another one
pub ruleset replaced = (take-set-lt)

-- an empty stack has room for one item
pub first_put : {T : Type 0} (r : Result (Unit {0}) Full) (N : ℕ) (before after : List T) (x : T) → 0 < N → before ≡ [] → Added N before x after r → after ≡ x ∷ []
first_put (Ok u) N before after x some e a = a ∙ ap (λ l. x ∷ l) e
first_put (Err u) N before after x some e a = let long = ap length e in absurd (let z : ⊥ = omega (arith, a.1) in z)
