-- What is known of each side of a rule.
use Rattle.std.proofs.Common.{◌≤◌, arith}
use Rattle.std.proofs.lemmas.List.{length-take}
use Rattle.terms.specs.Term.{Term, variable, instrument, apply, Terms, nil, cons, symbols}
use Rattle.terms.proofs.Laying.{Narrow as Low, AllNarrow as AllLow}
use Rattle.sheet.specs.Sides.{side_of}
use Rattle.sheet.specs.declared.side.Side.{Side}
use Rattle.sheet.proofs.Sides.{side_narrow}
use Rattle.compiled.specs.Symbols.{Narrow, AllNarrow}

-- it has at most 32 symbols
pub few_symbols : (s : Side) → symbols (side_of s) ≤ 32
few_symbols s = let l = s.nodes.nodes in omega (arith, s.laid.counted, length-take l.len l.slots, l.fits)

mutual
  narrow : (t : Term) → Low t → Narrow t
  narrow (variable x) h = tt
  narrow (instrument n) h = tt
  narrow (apply f ts) h = (h.0, all_narrow ts h.1)

  all_narrow : (ts : Terms) → AllLow ts → AllNarrow ts
  all_narrow nil h = tt
  all_narrow (cons t ts) h = (narrow t h.0, all_narrow ts h.1)

-- and no operator over more than three arguments
pub few_arguments : (s : Side) → Narrow (side_of s)
few_arguments s = narrow (side_of s) (side_narrow s)
