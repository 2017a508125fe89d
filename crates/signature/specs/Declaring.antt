-- What a signature declares, and what declaring answers.
use Rattle.std.specs.Prelude.{◌≡◌, ℕ, ◌<◌, ◌≤◌, true, false, List, [], ◌∷◌, ◌++◌, length, Some, None, Ok, Err, Result, slice_set}
use Rattle.fixed_vec.specs.FixedVec.{items}
use Rattle.signature.specs.declared.operator.Undeclarable.{Undeclarable}
use Rattle.signature.specs.declared.operator.Undeclarable.TheVariants.{Misspelt, Full, Twice}
use Rattle.signature.specs.declared.operator.Unrankable.{Unrankable}
use Rattle.signature.specs.declared.operator.Unrankable.TheVariants.{Undeclared, PastThree}
use Rattle.signature.specs.declared.Signature.{Signature}
use Rattle.terms.specs.Signature.{Sig, op_of, spelt, found}
use Rattle.signature.specs.Operators.{ops_from}

abbrev pub sig_of : Signature → Sig
sig_of s = ops_from (items s.operators)

-- one operator more, without arguments as yet; or why not, and nothing changes
abbrev pub Declares : Sig → List ℕ → Sig → Result (Unit {0}) Undeclarable → Type 0
Declares sig s after (Ok u) = (after ≡ sig ++ record { name = s; arity = 0 } ∷ []) × (spelt s ≡ true) × (length sig < 32) × (found sig s ≡ None)
Declares sig s after (Err Misspelt) = (after ≡ sig) × (spelt s ≡ false)
Declares sig s after (Err Full) = (after ≡ sig) × (spelt s ≡ true) × (32 ≤ length sig)
Declares sig s after (Err Twice) = (after ≡ sig) × (spelt s ≡ true) × (length sig < 32) × ((f : ℕ) × (found sig s ≡ Some f))

-- a declared operator has another arity, of three at most; or why not, and nothing changes
abbrev pub Ranks : Sig → ℕ → ℕ → Sig → Result (Unit {0}) Unrankable → Type 0
Ranks sig f n after (Ok u) = (after ≡ slice_set sig f (record { name = (op_of sig f).name; arity = n })) × (f < length sig) × (n ≤ 3)
Ranks sig f n after (Err Undeclared) = (after ≡ sig) × (length sig ≤ f)
Ranks sig f n after (Err PastThree) = (after ≡ sig) × (f < length sig) × (3 < n)
