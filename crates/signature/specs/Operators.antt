-- What names and operators stand for.
use Rattle.std.specs.Prelude.{ℕ, List, map}
use Rattle.fixed_vec.specs.FixedVec.{items}
use Rattle.signature.specs.declared.operator.Name.{Name}
use Rattle.signature.specs.declared.operator.Operator.{Operator}
use Rattle.terms.specs.Signature.{Op, Sig}

abbrev pub bytes_of : Name → List ℕ
bytes_of n = items n.bytes

abbrev pub op_from : Operator → Op
op_from o = record { name = bytes_of o.name; arity = o.arity }

abbrev pub ops_from : List Operator → Sig
ops_from os = map op_from os
