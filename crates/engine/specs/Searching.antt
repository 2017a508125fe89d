-- What the search for the next step answers, and what the step found there leaves to be searched.
use Rattle.std.specs.Prelude.{◌≡◌, ℕ, ◌+◌, ◌<◌, ◌≤◌, Bool, true, false, List, [], ◌∷◌, length, Some, None, Option, slice_index_or}
use Rattle.std.proofs.Math.Option.{none as nothing, some}
use Rattle.terms.specs.declared.node.Node.{Node}
use Rattle.terms.specs.declared.symbol.Symbol.{Symbol}
use Rattle.terms.specs.Term.{Term, symbols}
use Rattle.terms.specs.Nodes.{vacant}
use Rattle.terms.specs.Signature.{Sig}
use Rattle.terms.specs.Substitution.{fill}
use Rattle.terms.specs.Rule.{Rule}
use Rattle.traversal.specs.Walks.{most_symbols}
use Rattle.rewriting.specs.Rules.{left_of, right_of, RulesOf}
use Rattle.rewriting.specs.Bindings.{Bindings, bound}
use Rattle.rewriting.specs.Next.{matching, matching_all, contracted, next}
use Rattle.node_store.specs.Memory.{Memory}
use Rattle.node_store.specs.Placed.{Placed, none, at, link, Holds, IsTerm, Held, also}
use Rattle.node_store.specs.Grafting.{graft, Sub}
use Rattle.node_store.specs.Work.{Work}
use Rattle.node_store.specs.Loading.{arguments_of}
use Rattle.rule_set.specs.declared.RuleSet.{RuleSet}
use Rattle.rule_set.specs.Members.{has}
use Rattle.compiled.specs.declared.CompiledRules.{CompiledRules}
use Rattle.compiled.specs.Compiled.{IsCompiled}
use Rattle.matching.specs.Peeling.{Peeled}
use Rattle.engine.specs.declared.visits.Visit.{Visit}
use Rattle.engine.specs.declared.visits.Visit.TheVariants.{Fresh}
use Rattle.engine.specs.declared.search.Hit.{Hit}
use Rattle.engine.specs.Searched.{ahead, Seeking, Renewed}

-- the rules are those that were compiled, and the term is held in nodes beside others
pub record Prepared (m : Memory) (c : CompiledRules) (sig : Sig) (rules : List Rule) (h : Held) (root : ℕ) (s : Option Symbol) (ks : Placed) (t : Term) (g : Placed) : Type 0 where
  pub over : RulesOf sig rules
  pub compiled : IsCompiled rules c
  pub work : Work m (also root s ks t h) [] g
  pub few : length m.nodes ≤ most_symbols

-- the node at a place has the symbol, over the row of arguments
pub record Shows (ns : List Node) (p : ℕ) (s : Option Symbol) (ks : Placed) : Type 0 where
  pub symbol : (slice_index_or ns p vacant).symbol ≡ s
  pub first : (slice_index_or ns p vacant).first ≡ link ks
  pub row : Holds ns ks

-- no rule of the sheet but those of the set matches the term; each of these begins as the term does, so it matches if its arguments do
pub record Candidates (rules : List Rule) (t : Term) (set : RuleSet) : Type 0 where
  pub known : (i : ℕ) → has set i ≡ true → i < length rules
  pub begin : (i : ℕ) → has set i ≡ true → matching (left_of rules i) t ≡ matching_all (arguments_of (left_of rules i)) (arguments_of t)
  pub others : (i : ℕ) → i < length rules → has set i ≡ false → matching (left_of rules i) t ≡ nothing

-- the candidates for every term with the symbol in front
abbrev pub Begins : CompiledRules → Option Symbol → RuleSet → Type 0
Begins c s set = (sig : Sig) (rules : List Rule) → RulesOf sig rules → IsCompiled rules c → (ks : Placed) (t : Term) → IsTerm s ks t → Candidates rules t set

-- the candidates for a term whose arguments begin at the link are among the second ones, if they are among the first ones
abbrev pub Narrows : Memory → CompiledRules → Option ℕ → RuleSet → RuleSet → Type 0
Narrows m c first before after =
    (rules : List Rule) → IsCompiled rules c → (s : Option Symbol) (ks : Placed) (t : Term) → Holds m.nodes ks → link ks ≡ first → IsTerm s ks t → Candidates rules t before → Candidates rules t after

-- the rule of a number is the lowest that matches a term; these are the places of its left side's symbols behind the first
pub record Fits (rules : List Rule) (i : ℕ) (ks : Placed) (t : Term) (places : List ℕ) : Type 0 where
  pub known : i < length rules
  pub kept : List Placed
  pub bindings : Bindings
  pub peeled : Peeled (arguments_of (left_of rules i)) ks places kept bindings
  pub matched : matching_all (arguments_of (left_of rules i)) (arguments_of t) ≡ some bindings
  pub makes : contracted rules t ≡ some (fill (bound bindings) (right_of rules i))

abbrev pub FitsOr : List Rule → Placed → Term → List ℕ → Option ℕ → Type 0
FitsOr rules ks t places None = contracted rules t ≡ nothing
FitsOr rules ks t places (Some i) = Fits rules i ks t places

-- the lowest rule that matches the term at a place, if one does
abbrev pub Finds : Memory → CompiledRules → ℕ → List ℕ → Option ℕ → Type 0
Finds m c p places r =
    (sig : Sig) (rules : List Rule) → RulesOf sig rules → IsCompiled rules c → (s : Option Symbol) (ks : Placed) (t : Term) → Shows m.nodes p s ks → IsTerm s ks t → FitsOr rules ks t places r

-- fewer turns are left, with these visits
abbrev pub Nearer : List Rule → ℕ → Placed → Term → ℕ → List Visit → Type 0
Nearer rules root ks t n vs = (k : ℕ) × (k < n) × Seeking rules root ks t k vs

-- the row at a place is looked at first, and then what is on the stack; so it is then of the row that is answered
abbrev pub Looks : Memory → CompiledRules → ℕ → List Visit → List Visit → Option ℕ → Type 0
Looks m c i before after r =
    (sig : Sig) (rules : List Rule) (h : Held) (root : ℕ) (s : Option Symbol) (ks : Placed) (t : Term) (g : Placed) → Prepared m c sig rules h root s ks t g → (n : ℕ) → Seeking rules root ks t n (Fresh i ∷ before)
    → Nearer rules root ks t n (ahead r after)

-- the step makes the next term. If what it makes at the place is searched by some visits before the rest, these search that term
pub record Onward (rules : List Rule) (root : ℕ) (s : Option Symbol) (ks : Placed) (t : Term) (p : ℕ) (rest : List Visit) (part u : Term) : Type 0 where
  pub onto : Term
  pub next : next rules t ≡ some onto
  pub change : symbols onto + symbols part ≡ symbols t + symbols u
  pub after : (c : Option Symbol) (a : Placed) (vs : List Visit) → IsTerm c a u → Renewed rules p a u vs rest
      → (s₂ : Option Symbol) × (ks₂ : Placed) × (at root s₂ ks₂ none ≡ graft p c a (at root s ks none)) × IsTerm s₂ ks₂ onto × ((k : ℕ) × Seeking rules root ks₂ onto k vs)

-- the next step of a held term: its place and its rule; what variables are bound to has no next step
pub record Sought (rules : List Rule) (root : ℕ) (s : Option Symbol) (ks : Placed) (t : Term) (places : List ℕ) (hit : Hit) (rest : List Visit) : Type 0 where
  pub symbol : Option Symbol
  pub below : Placed
  pub part : Term
  pub sub : Sub hit.place symbol below (at root s ks none)
  pub is : IsTerm symbol below part
  pub fits : Fits rules hit.rule below part places
  pub normal : (x : ℕ) → next rules (bound fits.bindings x) ≡ nothing
  pub onward : Onward rules root s ks t hit.place rest part (fill (bound fits.bindings) (right_of rules hit.rule))

abbrev pub SoughtOr : List Rule → ℕ → Option Symbol → Placed → Term → List ℕ → List Visit → Option Hit → Type 0
SoughtOr rules root s ks t places rest None = next rules t ≡ nothing
SoughtOr rules root s ks t places rest (Some hit) = Sought rules root s ks t places hit rest

-- the next step of the term that the visits search, if it has one
abbrev pub Searches : Memory → CompiledRules → List Visit → List ℕ → List Visit → Option Hit → Type 0
Searches m c before places after r =
    (sig : Sig) (rules : List Rule) (h : Held) (root : ℕ) (s : Option Symbol) (ks : Placed) (t : Term) (g : Placed) → Prepared m c sig rules h root s ks t g → (n : ℕ) → Seeking rules root ks t n before
    → SoughtOr rules root s ks t places after r

-- a term is held where another was, and all others as they were; the visits search it
pub record Onto (m : Memory) (c : CompiledRules) (sig : Sig) (rules : List Rule) (h : Held) (root : ℕ) (u : Term) (k : Memory) (vs : List Visit) : Type 0 where
  pub symbol : Option Symbol
  pub under : Placed
  pub gone : Placed
  pub prepared : Prepared k c sig rules h root symbol under u gone
  pub long : length k.nodes ≡ length m.nodes
  pub turns : ℕ
  pub seeking : Seeking rules root under u turns vs

abbrev pub OntoOr : Memory → CompiledRules → Sig → List Rule → Held → ℕ → Term → Term → Memory → List Visit → Bool → Type 0
OntoOr m c sig rules h root t u k vs true = (symbols u ≤ m.free + symbols t) × Onto m c sig rules h root u k vs
OntoOr m c sig rules h root t u k vs false = (m.free + symbols t < symbols u) × (k ≡ m)

-- the step is made if there is room for it, else nothing changes
abbrev pub Makes : Memory → CompiledRules → Hit → List ℕ → List Visit → Memory → List Visit → Bool → Type 0
Makes m c hit places before k after r =
    (sig : Sig) (rules : List Rule) (h : Held) (root : ℕ) (s : Option Symbol) (ks : Placed) (t : Term) (g : Placed) → Prepared m c sig rules h root s ks t g → (found : Sought rules root s ks t places hit before)
    → OntoOr m c sig rules h root t found.onward.onto k after r

-- the visits search the term that is held at the place
abbrev pub Starts : Memory → ℕ → List Visit → Type 0
Starts m root vs =
    (c : CompiledRules) (sig : Sig) (rules : List Rule) (h : Held) (s : Option Symbol) (ks : Placed) (t : Term) (g : Placed) → Prepared m c sig rules h root s ks t g → (n : ℕ) × Seeking rules root ks t n vs
