-- What testing the overlaps means, in the words of overlaps.
use Rattle.std.specs.Prelude.{◌≡◌, ◌⊎◌, ◌↔◌, ℕ, ◌<◌, List, Some, None}
use Rattle.terms.specs.Position.{Position}
use Rattle.terms.specs.Rule.{Rule}
use Rattle.rewriting.specs.Bindings.{Bindings}
use Rattle.rewriting.specs.Next.{Before}
use Rattle.rewriting.specs.Unifier.{Overlap, first_side, second_side}
use Rattle.reading.specs.declared.refusal.Refusal.{Refusal}
use Rattle.machine.specs.Admission.{sides_refusal, overlaps_refusal}

-- the sides of every overlap pass, with so many nodes
abbrev pub AllPass : List Rule → ℕ → Type 0
AllPass rules nodes =
    (outer inner : ℕ) (p : Position) (m : Bindings) → Overlap rules outer inner p m → sides_refusal rules nodes outer inner (first_side rules outer m) (second_side rules outer inner p m) ≡ None

-- an outer rule, inner rule and position come before others: by outer rules, inner rules and positions in reading order
abbrev pub Sooner : ℕ → ℕ → Position → ℕ → ℕ → Position → Type 0
Sooner i j p outer inner q = (i < outer) ⊎ ((i ≡ outer) × ((j < inner) ⊎ ((j ≡ inner) × Before p q)))

-- the first overlap whose sides are refused
pub record FirstRefused (rules : List Rule) (nodes : ℕ) (refusal : Refusal) : Type 0 where
  pub outer : ℕ
  pub inner : ℕ
  pub position : Position
  pub bindings : Bindings
  pub overlap : Overlap rules outer inner position bindings
  pub refused : sides_refusal rules nodes outer inner (first_side rules outer bindings) (second_side rules outer inner position bindings) ≡ Some refusal
  pub sooner_pass : (i j : ℕ) (p : Position) (m : Bindings) → Overlap rules i j p m → Sooner i j p outer inner position → sides_refusal rules nodes i j (first_side rules i m) (second_side rules i j p m) ≡ None

-- there is no refusal exactly if the sides of every overlap pass, and a refusal exactly if it is that of the first overlap whose sides are refused
pub record OverlapsTested (rules : List Rule) (nodes : ℕ) : Type 0 where
  pub passed : (overlaps_refusal rules nodes ≡ None) ↔ AllPass rules nodes
  pub refused : (refusal : Refusal) → (overlaps_refusal rules nodes ≡ Some refusal) ↔ FirstRefused rules nodes refusal
