-- What two equal options or results say.
use Rattle.std.proofs.Common.{◌≡◌, ℕ, Some, Ok, Err, Result, arith}

pub same_some : {A : Type 0} {x y : A} → Some x ≡ Some y → x ≡ y
same_some e = cc

pub not_both : {A E B : Type 0} {a : A} {f : E} → Ok a ≡ Err f → B
not_both e = absurd (let z : ◌≡◌ {A = ℕ} 0 1 = cc in omega arith)

pub same_ok : {A E : Type 0} {x y : A} → ◌≡◌ {A = Result A E} (Ok x) (Ok y) → x ≡ y
same_ok e = cc

pub same_fault : {A E : Type 0} {f g : E} → ◌≡◌ {A = Result A E} (Err f) (Err g) → f ≡ g
same_fault e = cc
