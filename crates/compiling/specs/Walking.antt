-- What going through the terms of a side needs and does.
use Rattle.std.specs.Prelude.{◌≡◌, ℕ, ◌+◌, ◌≤◌, Bool, ◌∷◌, ◌++◌, length}
use Rattle.fixed_vec.specs.FixedVec.{items}
use Rattle.terms.specs.Term.{Term, Terms, symbols, symbols_in}
use Rattle.terms.specs.Rule.{levels, levels_in}
use Rattle.terms.specs.View.{Answers, Stands, StandFrom}
use Rattle.compiled.specs.Plans.{operators_of, operators_in}
use Rattle.compiling.specs.Outlines.{part_of, outline_of, outline_under}
use Rattle.compiling.specs.declared.outline.Outline.{Outline}

-- a term stands at the place
abbrev pub Occupied : Answers → ℕ → Type 0
Occupied v p = (t : Term) × Stands v p t

-- there is room for so many symbols more
pub record Room (many : ℕ) (o : Outline) : Type 0 where
  pub others : length (items o.others) + many ≤ 32
  pub operators : length (items o.operators) + many ≤ 32

-- a term stands at a place, of no more than so many levels, and there is room for its symbols
pub record RoomForTerm (v : Answers) (p n : ℕ) (o : Outline) : Type 0 where
  pub term : Term
  pub stands : Stands v p term
  pub low : levels term ≤ n
  pub room : Room (symbols term) o

-- and for terms that stand as the arguments of a place from the k-th on
pub record RoomForRow (v : Answers) (p k n : ℕ) (o : Outline) : Type 0 where
  pub terms : Terms
  pub stand : StandFrom v p k terms
  pub third : k ≤ 3
  pub low : levels_in terms ≤ n
  pub room : Room (symbols_in terms) o

-- the symbols of a term stand behind those that were there
pub record AddsTerm (t : Term) (next : Bool) (before after : Outline) : Type 0 where
  pub root : after.root ≡ before.root
  pub others : items after.others ≡ items before.others ++ part_of t next ∷ outline_under t
  pub operators : items after.operators ≡ items before.operators ++ operators_in (length (items before.others)) t

-- and those of a row
pub record AddsRow (ts : Terms) (before after : Outline) : Type 0 where
  pub root : after.root ≡ before.root
  pub others : items after.others ≡ items before.others ++ outline_of ts
  pub operators : items after.operators ≡ items before.operators ++ operators_of (length (items before.others)) ts
