-- What a vector in an array holds.
use Rattle.std.specs.Prelude.{◌≡◌, ℕ, ◌≤◌, List, [], ◌∷◌, ◌++◌, reverse, length, take, Some, None, Option, Ok, Err, Result}
use Rattle.fixed_vec.specs.declared.FixedVec.{FixedVec}
use Rattle.fixed_vec.specs.declared.Full.{Full}

-- the items in order
abbrev pub items : {T : Type 0} {N : ℕ} → FixedVec T N → List T
items v = take v.len v.slots

-- the items as a stack, the top first
abbrev pub content : {T : Type 0} {N : ℕ} → FixedVec T N → List T
content v = reverse (items v)

-- the item is on top; or there is no room for it, and nothing changes
abbrev pub Added : {T : Type 0} → ℕ → List T → T → List T → Result (Unit {0}) Full → Type 0
Added N before x after (Ok u) = after ≡ x ∷ before
Added N before x after (Err e) = (after ≡ before) × (N ≤ length before)

-- the top is taken off; or there is none
abbrev pub Removed : {T : Type 0} → List T → List T → Option T → Type 0
Removed before after None = before ≡ []
Removed before after (Some x) = before ≡ x ∷ after

-- the last item is taken off; or there is none
abbrev pub Popped : {T : Type 0} → List T → List T → Option T → Type 0
Popped before after None = (before ≡ []) × (after ≡ [])
Popped before after (Some x) = before ≡ after ++ x ∷ []
