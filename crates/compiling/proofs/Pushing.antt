-- Putting an item behind others where there is room.
use Rattle.std.proofs.Common.{ℕ, ◌<◌, ◌≤◌, Ok, Err, Result, IsOk, OnErr, refl, arith}
use Rattle.fixed_vec.specs.declared.Full.{Full}

pub has_room : (r : Result (Unit {0}) Full) (n most : ℕ) → OnErr r (most ≤ n) → n < most → IsOk r
has_room (Ok u) n most h l = refl
has_room (Err e) n most h l = absurd (let z : ⊥ = omega arith in z)
