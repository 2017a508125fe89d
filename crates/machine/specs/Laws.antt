-- What holds of reducing, of admission and of the machine.
use Rattle.std.specs.Prelude.{◌≡◌, ℕ, ◌↔◌, Bool, true, List, None, Option}
use Rattle.terms.specs.Term.{Term}
use Rattle.terms.specs.Signature.{Sig, Declared}
use Rattle.terms.specs.Rule.{Rule}
use Rattle.rewriting.specs.Rules.{RulesOf}
use Rattle.rewriting.specs.Convergent.{Convergent}
use Rattle.reading.specs.declared.refusal.Refusal.{Refusal}
use Rattle.machine.specs.Machine.{System, Machine, opened}
use Rattle.machine.specs.Reducing.{Reduced, reduction, IsReduction}
use Rattle.machine.specs.Calls.{Call, Answer, refused, call, buffer_given, after, answers_to}
use Rattle.machine.specs.History.{HeldSince}
use Rattle.machine.specs.Admission.{Admission, admission, sides_refusal}
use Rattle.machine.specs.Sides.{SidesAnswer}
use Rattle.machine.specs.Whole.{Holds, Whole}
use Rattle.machine.specs.Following.{Follows, Keeps, Session, Kept}

-- of rules over a signature, a reduction is what the function gives, and nothing else is one
abbrev pub ReductionsFixed : Type 0
ReductionsFixed = (sig : Sig) (rules : List Rule) → RulesOf sig rules → (allowed free : ℕ) (t : Term) (r : Reduced) → IsReduction rules allowed free t r ↔ (r ≡ reduction rules allowed free t)

-- of rules over a signature, two sides get the answer that the function gives, and no other
abbrev pub SidesTested : Type 0
SidesTested =
    (sig : Sig) (rules : List Rule) → RulesOf sig rules → (nodes outer inner : ℕ) (t u : Term) (answer : Option Refusal)
    → SidesAnswer rules nodes outer inner t u answer ↔ (answer ≡ sides_refusal rules nodes outer inner t u)

-- where a test decides the order's strict set, admission answers what the function gives, and nothing else
abbrev pub AdmissionDecided : (Rule → Type 0) → Type 0
AdmissionDecided strict =
    (is_strict : Rule → Bool) → ((r : Rule) → (is_strict r ≡ true) ↔ strict r)
    → (nodes : ℕ) (rules : List Rule) (answer : Option Refusal) → Admission strict nodes rules answer ↔ (answer ≡ admission is_strict nodes rules)

-- admission gives one answer
abbrev pub OneAdmission : (Rule → Type 0) → Type 0
OneAdmission strict = (nodes : ℕ) (rules : List Rule) (a b : Option Refusal) → Admission strict nodes rules a → Admission strict nodes rules b → a ≡ b

-- rules that are admitted under an order with this strict set are convergent
abbrev pub AdmittedConverge : (Rule → Type 0) → Type 0
AdmittedConverge strict = (sig : Sig) → Declared sig → (rules : List Rule) → RulesOf sig rules → (nodes : ℕ) → Admission strict nodes rules None → Convergent sig rules

-- a refused call leaves the machine as it is, and the buffer that it was given
abbrev pub RefusedStay : Type 0
RefusedStay = (s : System) (m : Machine) (c : Call) (r : Refusal) → (call s m c).answer ≡ refused r → ((call s m c).machine ≡ m) × ((call s m c).buffer ≡ buffer_given c)

-- in a machine opened on any numbers of nodes and entries, an entry holds just what the calls and answers since then tell
abbrev pub HistoryTells : Type 0
HistoryTells =
    (s : System) (nodes entries : ℕ) (cs : List Call) (e : ℕ) (t : Term) (n : ℕ) (f : Bool)
    → Holds (after s (opened nodes entries) cs) e t n f ↔ HeldSince s e cs (answers_to s (opened nodes entries) cs) t n f

-- what holds of a machine opened on any numbers of nodes and entries, after any list of calls
abbrev pub KeptByAll : System → Type 0
KeptByAll s = (nodes entries : ℕ) (cs : List Call) → Whole s (after s (opened nodes entries) cs) × ((after s (opened nodes entries) cs).nodes ≡ nodes)

-- it holds of convergent rules
abbrev pub ConvergentKeep : Type 0
ConvergentKeep = (s : System) → Declared s.operators → ∥ Convergent s.operators s.rules ∥₁ → KeptByAll s

-- and so of rules that are admitted under an order with this strict set
abbrev pub AdmittedKeep : (Rule → Type 0) → Type 0
AdmittedKeep strict = (s : System) → Declared s.operators → RulesOf s.operators s.rules → (scratch : ℕ) → Admission strict scratch s.rules None → KeptByAll s

-- a book whose calls each follow the machine keeps the whole, after any list of calls
abbrev pub SessionsKeep : {B : Type 0} → (B → Machine → Type 0) → Type 0
SessionsKeep {B} Stands =
    (s : System) → Declared s.operators → ∥ Convergent s.operators s.rules ∥₁ → (nodes entries : ℕ) (a b : B) (cs : List Call) (xs : List Answer) (ls : List (List ℕ))
    → Stands a (opened nodes entries) → Session Stands s a cs xs ls b → Kept Stands s nodes entries cs xs ls b

-- and each of them, after any list of calls
abbrev pub FollowersKeep : {B : Type 0} → (B → Machine → Type 0) → Type 0
FollowersKeep {B} Stands = (s : System) (before now : B) (c : Call) (x : Answer) (l : List ℕ) → Follows Stands s before now c x l → Keeps Stands s before now c x l
