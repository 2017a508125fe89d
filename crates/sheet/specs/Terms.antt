-- The term that a layout holds.
use Rattle.std.specs.Prelude.{◌≡◌, ℕ, ◌≤◌, length}
use Rattle.terms.specs.declared.layout.Layout.{Layout}
use Rattle.terms.specs.Term.{Term, symbols}
use Rattle.terms.specs.Nodes.{node_answers}
use Rattle.terms.specs.Layout.{in_use, LaysOut}
use Rattle.terms.specs.Off.{read_off}
use Rattle.terms.specs.Rule.{levels}

-- read off its first node; two links for each of 32 symbols are enough
unfoldable pub term_in : {N : ℕ} → Layout N → Term
term_in l = read_off 64 (node_answers (in_use l)) 0

-- a layout of which a side can be made: its nodes in use are those of its term, in reading order, and the term has no more than 16 levels
pub record LaidSide {N : ℕ} (l : Layout N) : Type 0 where
  pub are_laid : ∥ LaysOut l (term_in l) ∥₁
  pub counted : length (in_use l) ≡ symbols (term_in l)
  pub few : levels (term_in l) ≤ 16
