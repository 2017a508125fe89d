-- Convergent rules: steps between tickets end, and the two sides of each overlap reduce to one and the same.
use Rattle.std.specs.Prelude.{◌≡◌, ℕ, List}
use Rattle.terms.specs.Term.{Term}
use Rattle.terms.specs.Signature.{Sig}
use Rattle.terms.specs.Ticket.{Ticket}
use Rattle.terms.specs.Position.{Position}
use Rattle.terms.specs.Rule.{Rule}
use Rattle.rewriting.specs.Rules.{RulesOf}
use Rattle.rewriting.specs.Step.{Step}
use Rattle.rewriting.specs.Reduction.{Reduces, Joinable, Normal, Ends, Conversion}
use Rattle.rewriting.specs.Bindings.{Bindings}
use Rattle.rewriting.specs.Next.{run}
use Rattle.rewriting.specs.Unifier.{Overlap, first_side, second_side}

-- from no ticket do steps go on without end; they lead from tickets to tickets
abbrev pub StepsEnd : Sig → List Rule → Type 0
StepsEnd sig rules = (t : Term) → Ticket sig t → Ends (Step rules) t

-- the sides of each overlap, their variables standing as leaves, reduce to one and the same
abbrev pub OverlapsJoin : List Rule → Type 0
OverlapsJoin rules = (outer inner : ℕ) (p : Position) (m : Bindings) → Overlap rules outer inner p m → Joinable (Step rules) (first_side rules outer m) (second_side rules outer inner p m)

-- whatever two steps lead to from one term reduces to one and the same
abbrev pub PeaksJoin : List Rule → Type 0
PeaksJoin rules = (t u v : Term) → Step rules t u → Step rules t v → Joinable (Step rules) u v

-- the sides of each overlap are one and the same term after some next steps of each
abbrev pub OverlapsAgree : List Rule → Type 0
OverlapsAgree rules = (outer inner : ℕ) (p : Position) (m : Bindings) → Overlap rules outer inner p m → (n : ℕ) × (k : ℕ) × (run rules n (first_side rules outer m) ≡ run rules k (second_side rules outer inner p m))

pub record Convergent (sig : Sig) (rules : List Rule) : Type 0 where
  pub over : RulesOf sig rules
  pub steps_end : StepsEnd sig rules
  pub overlaps_join : OverlapsJoin rules

-- a list of tickets whose neighbours are joined by one step, either way, of any matching rule at any position
abbrev pub Converts : Sig → List Rule → Term → Term → Type 0
Converts sig rules = Conversion (Ticket sig) (Step rules)

-- two terms have one and the same normal form: next steps lead from each to it, and no steps lead from either to another
pub record OneNormalForm (rules : List Rule) (t u : Term) : Type 0 where
  pub form : Term
  pub normal : Normal (Step rules) form
  pub steps_of_first : ℕ
  pub first : run rules steps_of_first t ≡ form
  pub steps_of_second : ℕ
  pub second : run rules steps_of_second u ≡ form
  pub only_of_first : (v : Term) → Reduces (Step rules) t v → Normal (Step rules) v → v ≡ form
  pub only_of_second : (v : Term) → Reduces (Step rules) u v → Normal (Step rules) v → v ≡ form
