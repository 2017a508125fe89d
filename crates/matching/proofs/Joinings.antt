-- Bindings of rows beside each other.
use Rattle.std.proofs.Common.{◌≡◌, List, [], ◌∷◌, append_assoc, append-nil, refl, ap}
use Rattle.std.proofs.Math.Option.{Option, none, some}
use Rattle.terms.specs.Term.{Terms}
use Rattle.rewriting.specs.Bindings.{Bindings, joined}
use Rattle.rewriting.specs.Next.{matching_all}

pub joined_nothing : (o : Option Bindings) → joined (some []) o ≡ o
joined_nothing none = refl
joined_nothing (some m) = refl

pub joined_with_nothing : (o : Option Bindings) → joined o (some []) ≡ o
joined_with_nothing none = refl
joined_with_nothing (some m) = ap some (append-nil m)

pub joined_assoc : (o p q : Option Bindings) → joined (joined o p) q ≡ joined o (joined p q)
joined_assoc none p q = refl
joined_assoc (some m) none q = refl
joined_assoc (some m) (some n) none = refl
joined_assoc (some m) (some n) (some l) = ap some (append_assoc m n l)

-- how the rows of a pattern match some rows
abbrev pub matching_rows : List Terms → List Terms → Option Bindings
matching_rows [] [] = some []
matching_rows [] (us ∷ uss) = none
matching_rows (ts ∷ tss) [] = none
matching_rows (ts ∷ tss) (us ∷ uss) = joined (matching_all ts us) (matching_rows tss uss)
