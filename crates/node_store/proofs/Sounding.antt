-- The invariant of a pool.
use Rattle.std.proofs.Common.{◌≡◌, ℕ, ◌<◌, ◌≤◌, replicate, sym, refl, subst, ⊎_elim, arith}
use Rattle.std.proofs.lemmas.Bool.{cases_lt, le-leb}
use Rattle.std.proofs.lemmas.List.{get_or-replicate, length-replicate}
use Rattle.std.proofs.Math.ListN.{get_or-eq_default}
use Rattle.terms.specs.Nodes.{vacant}
use Rattle.traversal.specs.Walks.{most_symbols}
use Rattle.node_store.specs.Memory.{Memory, cleared}
use Rattle.node_store.specs.Placed.{none, no_term}
use Rattle.node_store.specs.Sound.{Sound}

pub cleared_sound : (n : ℕ) → n ≤ most_symbols → Sound (cleared n)
cleared_sound n few =
    let long = length-replicate n vacant in
    record {
      held = no_term;
      gone = none;
      terms = tt;
      begins = refl;
      row = tt;
      once = λ j. rw (le-leb 0 j (omega arith)) refl;
      blank = λ j h. ⊎_elim (λ (m : j < n). get_or-replicate n j vacant vacant m) (λ (m : n ≤ j). get_or-eq_default (replicate n vacant) vacant (omega arith)) (cases_lt j n);
      within = omega arith;
      count = omega arith;
      whole = omega arith;
      few = omega arith;
    }

pub as_cleared : (m : Memory) (n : ℕ) → m ≡ cleared n → n ≤ most_symbols → Sound m
as_cleared m n e few = subst Sound (sym e) (cleared_sound n few)

-- there are at most the most nodes
pub most : (n : ℕ) → n ≤ 16384 → n ≤ most_symbols
unfolding most_symbols
most n h = h

pub more : (n : ℕ) → 16384 < n → most_symbols < n
unfolding most_symbols
more n h = h
