-- What holds of steps, next steps, unifiers, orders and convergent rules.
use Rattle.std.specs.Prelude.{◌≡◌, ℕ, suc, ◌+◌, ◌≤◌, List}
use Rattle.std.proofs.Math.Option.{none, some}
use Rattle.terms.specs.Term.{Term}
use Rattle.terms.specs.Signature.{Sig, Declared}
use Rattle.terms.specs.Ticket.{TermOf, Ticket}
use Rattle.terms.specs.Position.{Position}
use Rattle.terms.specs.Substitution.{Substitution, fill, occurrences, renamed}
use Rattle.terms.specs.Rule.{Rule}
use Rattle.rewriting.specs.Rules.{left_of, RulesOf, MatchesNowhere}
use Rattle.rewriting.specs.Step.{Step}
use Rattle.rewriting.specs.Inductive.{Rewrites}
use Rattle.rewriting.specs.Reduction.{Reduces, Normal}
use Rattle.rewriting.specs.Bindings.{Bindings, bound}
use Rattle.rewriting.specs.Next.{NextStep, next, run, EndsAfter}
use Rattle.rewriting.specs.Positions.{ListsPositions, positions}
use Rattle.rewriting.specs.Unifier.{unifier, common, Separate, Overlap, first_side, second_side}
use Rattle.rewriting.specs.Order.{Relation, AllIn}
use Rattle.rewriting.specs.Convergent.{Convergent, StepsEnd, OverlapsJoin, PeaksJoin, OverlapsAgree, Converts, OneNormalForm}

-- a step at a position is a step by induction on the term, and the reverse
abbrev pub StepsAreInductive : Type 0
StepsAreInductive = (rules : List Rule) (t u : Term) → (Step rules t u → Rewrites rules t u) × (Rewrites rules t u → Step rules t u)

-- steps are closed under substitution
abbrev pub StepsFill : Type 0
StepsFill = (rules : List Rule) (σ : Substitution) (t u : Term) → Step rules t u → Step rules (fill σ t) (fill σ u)

-- steps lead from tickets to tickets
abbrev pub StepsKeepTickets : Type 0
StepsKeepTickets = (sig : Sig) (rules : List Rule) → RulesOf sig rules → (t u : Term) → Step rules t u → Ticket sig t → Ticket sig u

-- the function gives the next step and nothing else
abbrev pub NextIsNextStep : Type 0
NextIsNextStep = (sig : Sig) (rules : List Rule) → RulesOf sig rules → (t u : Term) → (next rules t ≡ some u → NextStep rules t u) × (NextStep rules t u → next rules t ≡ some u)

-- there is at most one next step
abbrev pub OneNextStep : Type 0
OneNextStep = (sig : Sig) (rules : List Rule) → RulesOf sig rules → (t u v : Term) → NextStep rules t u → NextStep rules t v → u ≡ v

-- there is none exactly if no rule matches anywhere, and that is exactly if no step leads on
abbrev pub NoNextStep : Type 0
NoNextStep =
    (sig : Sig) (rules : List Rule) → RulesOf sig rules → (t : Term)
    → (next rules t ≡ none → MatchesNowhere rules t) × (MatchesNowhere rules t → Normal (Step rules) t) × (Normal (Step rules) t → next rules t ≡ none)

-- so many next steps and then so many more are as many as both together
abbrev pub RunsAdd : Type 0
RunsAdd = (rules : List Rule) (n k : ℕ) (t : Term) → run rules k (run rules n t) ≡ run rules (n + k) t

-- after so many next steps a term is one that it reduces to
abbrev pub RunsReduce : Type 0
RunsReduce = (sig : Sig) (rules : List Rule) → RulesOf sig rules → (n : ℕ) (t : Term) → Reduces (Step rules) t (run rules n t)

-- renaming apart: a term over the signature, renamed, shares no variable with another
abbrev pub RenamedApart : Type 0
RenamedApart = (sig : Sig) (s t : Term) → TermOf sig s → TermOf sig t → (x : ℕ) → 1 ≤ occurrences x s → occurrences x (renamed t) ≡ 0

-- without a unifier there is no term that two terms become; with one, if they are separate, it is what the unifier makes of them
abbrev pub UnifierIsCommon : Type 0
UnifierIsCommon = (a b : Term) → (unifier a b ≡ none → common a b ≡ none) × ((m : Bindings) → Separate a b → unifier a b ≡ some m → common a b ≡ some (fill (bound m) a))

-- the unifier of separate terms makes them equal
abbrev pub UnifierUnifies : Type 0
UnifierUnifies = (a b : Term) (m : Bindings) → Separate a b → unifier a b ≡ some m → fill (bound m) a ≡ fill (bound m) b

-- it is most general: where a substitution makes two terms equal they have a unifier, and the substitution goes through it
abbrev pub UnifierIsMostGeneral : Type 0
UnifierIsMostGeneral = (a b : Term) (σ : Substitution) → fill σ a ≡ fill σ b → (m : Bindings) × (unifier a b ≡ some m) × ((t : Term) → fill σ (fill (bound m) t) ≡ fill σ t)

-- from the outer left side, filled, one step leads to either side of an overlap
abbrev pub OverlapsAreSteps : Type 0
OverlapsAreSteps =
    (sig : Sig) (rules : List Rule) → RulesOf sig rules → (outer inner : ℕ) (p : Position) (m : Bindings) → Overlap rules outer inner p m
    → Step rules (fill (bound m) (left_of rules outer)) (first_side rules outer m) × Step rules (fill (bound m) (left_of rules outer)) (second_side rules outer inner p m)

-- the critical pair lemma: where the sides of each overlap can be joined, so can what any two steps lead to from one term, and the reverse
abbrev pub CriticalPairs : Type 0
CriticalPairs = (sig : Sig) (rules : List Rule) → RulesOf sig rules → (OverlapsJoin rules → PeaksJoin rules) × (PeaksJoin rules → OverlapsJoin rules)

-- where steps from tickets end there is no endless list of tickets with a step from each to the next
abbrev pub NoEndlessSteps : Type 0
NoEndlessSteps = (sig : Sig) (rules : List Rule) → StepsEnd sig rules → (ts : ℕ → Term) → ((n : ℕ) → Ticket sig (ts n)) → ((n : ℕ) → Step rules (ts n) (ts (suc n))) → ⊥

-- from every ticket the next steps end, after a number that rules and ticket alone fix; it suffices that the rules are known merely to be convergent
abbrev pub NextStepsEnd : Type 0
NextStepsEnd = (sig : Sig) (rules : List Rule) → ∥ Convergent sig rules ∥₁ → (t : Term) → Ticket sig t → (n : ℕ) × EndsAfter rules t n × ((k : ℕ) → EndsAfter rules t k → k ≡ n)

-- the two ends of a conversion have one and the same normal form
abbrev pub ConversionsAgree : Type 0
ConversionsAgree = (sig : Sig) (rules : List Rule) → Convergent sig rules → (t u : Term) → Converts sig rules t u → OneNormalForm rules t u

-- tickets that next steps lead to one and the same term are joined by a conversion
abbrev pub EqualRunsConvert : Type 0
EqualRunsConvert = (sig : Sig) (rules : List Rule) → RulesOf sig rules → (t u : Term) → Ticket sig t → Ticket sig u → (n k : ℕ) → run rules n t ≡ run rules k u → Converts sig rules t u

-- a conversion joins two tickets exactly if they are one and the same term once their next steps have ended; it suffices that the rules are known merely to be convergent
abbrev pub FormsDecide : Type 0
FormsDecide =
    (sig : Sig) (rules : List Rule) → ∥ Convergent sig rules ∥₁ → (t u : Term) → Ticket sig t → Ticket sig u → (n k : ℕ) → EndsAfter rules t n → EndsAfter rules u k
    → (Converts sig rules t u → run rules n t ≡ run rules k u) × (run rules n t ≡ run rules k u → Converts sig rules t u)

-- the positions of a term are listed in reading order
abbrev pub PositionsAreListed : Type 0
PositionsAreListed = (t : Term) → ListsPositions t (positions t)

-- there is no endless list of tickets with the relation between each and the next
abbrev pub NoEndlessDescent : Relation → Type 0
NoEndlessDescent greater = (sig : Sig) → Declared sig → (ts : ℕ → Term) → ((n : ℕ) → Ticket sig (ts n)) → ((n : ℕ) → greater (ts n) (ts (suc n))) → ⊥

-- of rules that an order with these relations orients strictly, steps from tickets end
abbrev pub StrictlyOrientedEnd : (Rule → Type 0) → Type 0
StrictlyOrientedEnd strict = (sig : Sig) → Declared sig → (rules : List Rule) → RulesOf sig rules → AllIn strict rules → StepsEnd sig rules

-- of rules that a set has, each step leads from a ticket to one that the relation holds to
abbrev pub StepsDescend : Relation → (Rule → Type 0) → Type 0
StepsDescend R set = (sig : Sig) → Declared sig → (rules : List Rule) → RulesOf sig rules → AllIn set rules → (t u : Term) → Ticket sig t → Step rules t u → R t u

-- rules that an order orients strictly and whose overlaps agree, their variables standing as leaves, are convergent
abbrev pub TestedConverge : (Rule → Type 0) → Type 0
TestedConverge strict = (sig : Sig) → Declared sig → (rules : List Rule) → RulesOf sig rules → AllIn strict rules → OverlapsAgree rules → Convergent sig rules
