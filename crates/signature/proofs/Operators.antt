-- The operators of a signature.
use Rattle.std.proofs.Common.{◌≡◌, ℕ, suc, ◌<◌, cond, ltb, Bool, true, List, [], ◌∷◌, ◌++◌, set, length, Some, None, sym, refl, ap, ◌∙◌, subst, add-one, arith, Ok, Err, Result, ◌≤◌, OnOk, OnErr}
use Rattle.std.proofs.lemmas.List.{map_push, map-set}
use Rattle.std.proofs.lemmas.Iterator.Adapters.{position_from-zero}
use Rattle.std.specs.Str.{bytes_eq}
use Rattle.std.specs.List.{position_or_len, position_from}
use Rattle.fixed_vec.specs.declared.Full.{Full}
use Rattle.terms.proofs.Signatures.{declared_push}
use Rattle.terms.specs.Signature.{Op, op_of, spelt, Declared, found_from, found}
use Rattle.signature.specs.declared.operator.Operator.{Operator}
use Rattle.signature.specs.declared.Signature.{Signature}
use Rattle.signature.specs.Operators.{op_from, ops_from}
use Rattle.signature.specs.Declaring.{sig_of}

-- a signature is what it must be
pub declared : (s : Signature) → Declared (sig_of s)
declared s = s.declared

abbrev pub named : List ℕ → Operator → Bool
named s o = bytes_eq (op_from o).name s

-- the first operator with a name is found
found_is : (i : ℕ) (os : List Operator) (s : List ℕ) → position_from (named s) i os ≡ found_from i (ops_from os) s
found_is i [] s = refl
found_is i (o ∷ os) s = ap (cond (named s o) (Some i)) (ap (λ k. position_from (named s) k os) (add-one i) ∙ found_is (suc i) os s)

pub position_found : (os : List Operator) (s : List ℕ) → cond (ltb (position_or_len (named s) os) (length os)) (Some (position_or_len (named s) os)) None ≡ found (ops_from os) s
position_found os s = position_from-zero (named s) os ∙ found_is 0 os s

-- one operator more, where there is room for it
pub declared_more :
    (r : Result (Unit {0}) Full) (os after : List Operator) (o : Operator) (s : List ℕ) → OnOk r (after ≡ os ++ o ∷ []) → OnErr r (32 ≤ length os) → length os < 32 → op_from o ≡ record { name = s; arity = 0 } → spelt s ≡ true → found (ops_from os) s ≡ None → Declared (ops_from os)
    → Declared (ops_from after)
declared_more (Ok u) os after o s e f l h sp n d = subst Declared (sym (ap ops_from e ∙ map_push op_from os o ∙ ap (λ x. ops_from os ++ x ∷ []) h)) (declared_push (ops_from os) s 0 d sp n (omega arith))
declared_more (Err u) os after o s e f l h sp n d = absurd (let z : ⊥ = omega (arith, f) in z)

-- another arity
pub set_again : (os after : List Operator) (f n : ℕ) (d o : Operator) → after ≡ set os f o → op_of (ops_from os) f ≡ op_from d → op_from o ≡ record { name = (op_from d).name; arity = n } → ops_from after ≡ set (ops_from os) f (record { name = (op_of (ops_from os) f).name; arity = n })
set_again os after f n d o e is h = ap ops_from e ∙ map-set op_from os f o ∙ ap (set (ops_from os) f) (h ∙ ap (λ (x : Op). record { name = x.name; arity = n }) (sym is))
