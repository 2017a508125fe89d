-- What stands at one place of a row, and other things put there.
use Rattle.std.specs.Prelude.{ℕ, ◌==◌, cond, Option}
use Rattle.terms.specs.declared.symbol.Symbol.{Symbol}
use Rattle.node_store.specs.Placed.{Placed, none, at}

-- the row with another symbol at a place, and another row of arguments
abbrev pub graft : ℕ → Option Symbol → Placed → Placed → Placed
graft p s ks none = none
graft p s ks (at i t js us) = cond (p == i) (at i s ks us) (at i t (graft p s ks js) (graft p s ks us))

-- the node at a place stands in the row, with this symbol and this row of arguments
pub data Sub : ℕ → Option Symbol → Placed → Placed → Type 0 where
  here : {p : ℕ} {s : Option Symbol} {ks us : Placed} → Sub p s ks (at p s ks us)
  under : {p i : ℕ} {s t : Option Symbol} {ks js us : Placed} → Sub p s ks js → Sub p s ks (at i t js us)
  later : {p i : ℕ} {s t : Option Symbol} {ks js us : Placed} → Sub p s ks us → Sub p s ks (at i t js us)
