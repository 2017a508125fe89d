-- What loading a term does.
use Rattle.std.specs.Prelude.{◌≡◌, ℕ, ◌<◌, Ok, Err, Result}
use Rattle.terms.specs.Term.{Term, symbols}
use Rattle.terms.specs.View.{Answers}
use Rattle.traversal.specs.Walks.{StandsWith}
use Rattle.node_store.specs.Memory.{Memory}
use Rattle.node_store.specs.Loading.{NowHeld}
use Rattle.pool.specs.declared.loading.Unloaded.{Unloaded}
use Rattle.pool.specs.declared.loading.Unloaded.TheVariants.{NoTerm, NoRoom}

-- the term that stands at a place of the view is held, and the place of its root answered; or there is none, or no room for it, and nothing changes
abbrev pub Loaded : Answers → ℕ → Memory → Memory → Result ℕ Unloaded → Type 0
Loaded v p m k (Ok q) = (t : Term) × StandsWith v p t × NowHeld m t k q
Loaded v p m k (Err NoTerm) = ((t : Term) → StandsWith v p t → ⊥) × (k ≡ m)
Loaded v p m k (Err NoRoom) = ((t : Term) × StandsWith v p t × (m.free < symbols t)) × (k ≡ m)
