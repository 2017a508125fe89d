-- An answer as it is printed.
use Rattle.std.specs.Prelude.{ℕ, List, Some, Option, Ok, Err, Result}
use Rattle.reading.specs.declared.refusal.Refusal.{Refusal}
use Rattle.reading.specs.Refusals.{refusal_text}

-- what was asked for, as it prints itself, or the refusal
abbrev pub printed : {T : Type 0} → (T → Option (List ℕ)) → Result T Refusal → Option (List ℕ)
printed output (Ok t) = output t
printed output (Err r) = Some (refusal_text r)
