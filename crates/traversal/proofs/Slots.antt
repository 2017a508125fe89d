-- What the loops over the slots of a row make of a stack.
use Rattle.std.proofs.Common.{ℕ, List, [], ◌∷◌, Some, None, Option}
use Rattle.std.specs.List.{cons_option}
use Rattle.traversal.specs.declared.pending.Lead.{Lead}
use Rattle.traversal.specs.declared.pending.Pending.{Pending}

-- what stands in slots, the last first, is put before what was there
abbrev pub filled : List (Option ℕ) → List ℕ → List ℕ
filled [] ps = ps
filled (o ∷ os) ps = filled os (cons_option o ps)

-- what stands in slots, the last first and each with its lead, is put before what was there, with so many closing parentheses after the last
abbrev pub heaped : ℕ → List (Option ℕ × Lead) → List Pending → List Pending
heaped c [] es = es
heaped c ((None, l) ∷ xs) es = heaped c xs es
heaped c ((Some p, l) ∷ xs) es = heaped 0 xs (record { place = p; lead = Some l; closings = c } ∷ es)
