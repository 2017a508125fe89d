-- A side of a rule by its symbols in reading order.
use Rattle.std.specs.Prelude.{◌≡◌, Bool, false, List, [], ◌∷◌, ◌++◌}
use Rattle.fixed_vec.specs.FixedVec.{items}
use Rattle.terms.specs.declared.symbol.Symbol.{Symbol}
use Rattle.terms.specs.declared.symbol.Symbol.TheVariants.{Variable, Instrument, Operator}
use Rattle.terms.specs.Term.{Term, variable, instrument, apply, Terms, nil, cons}
use Rattle.terms.specs.Rule.{Rule}
use Rattle.compiled.specs.declared.Piece.{Piece}
use Rattle.compiled.specs.Symbols.{any, has_arguments}
use Rattle.compiled.specs.Plans.{source_of, operators_under}
use Rattle.compiling.specs.declared.outline.Part.{Part}
use Rattle.compiling.specs.declared.outline.Outline.{Outline}

-- the first symbol of a term
abbrev pub first_of : Term → Symbol
first_of (variable x) = Variable x
first_of (instrument n) = Instrument n
first_of (apply f ts) = Operator f

-- and whether it has arguments, and a next sibling
abbrev pub part_of : Term → Bool → Part
part_of t next = record { symbol = first_of t; has_first = has_arguments t; has_next = next }

-- the parts of a row in reading order
abbrev mutual
  pub outline_of : Terms → List Part
  outline_of nil = []
  outline_of (cons t us) = part_of t (any us) ∷ (outline_under t ++ outline_of us)

  -- those of a term but its first
  pub outline_under : Term → List Part
  outline_under (variable x) = []
  outline_under (instrument n) = []
  outline_under (apply f ts) = outline_of ts

-- the outline is that of the term
pub record Outlines (t : Term) (o : Outline) : Type 0 where
  pub root : o.root ≡ part_of t false
  pub others : items o.others ≡ outline_under t
  pub operators : items o.operators ≡ operators_under t

-- the outlines are those of the sides of the rule
pub record OutlinesRule (r : Rule) (left right : Outline) : Type 0 where
  pub left_is : Outlines r.left left
  pub right_is : Outlines r.right right

-- a term with a symbol in front, and nothing behind it
abbrev pub alone : Symbol → Term
alone (Variable x) = variable x
alone (Instrument n) = instrument n
alone (Operator f) = apply f nil

-- that for the symbol of a part
abbrev pub leaf : Part → Term
leaf p = alone p.symbol

-- the piece for a part, by the parts of the left side behind its root, and by the parts before it on the right
abbrev pub piece_for : List Term → List Term → Part → Piece
piece_for left before p = record { source = source_of left before (leaf p); has_first = p.has_first; has_next = p.has_next }
