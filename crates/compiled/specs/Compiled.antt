-- What compiled rules are compiled from.
use Rattle.std.specs.Prelude.{◌≡◌, ℕ, zero, suc, ◌<◌, ◌≤◌, Bool, true, false, ◌==◌, List, length, Some, None, Option, slice_index_or}
use Rattle.fixed_vec.specs.FixedVec.{items}
use Rattle.terms.specs.declared.symbol.Symbol.{Symbol}
use Rattle.terms.specs.declared.symbol.Symbol.TheVariants.{Variable, Instrument, Operator}
use Rattle.terms.specs.Term.{Term, variable, instrument, apply, Terms, nil, cons}
use Rattle.terms.specs.Rule.{Rule}
use Rattle.rewriting.specs.Rules.{rule_at, left_of}
use Rattle.rule_set.specs.declared.RuleSet.{RuleSet}
use Rattle.rule_set.specs.Members.{has}
use Rattle.compiled.specs.declared.Fronts.{Fronts}
use Rattle.compiled.specs.declared.Plan.{Plan}
use Rattle.compiled.specs.declared.CompiledRules.{CompiledRules}
use Rattle.compiled.specs.Plans.{Planned}

-- the term begins with the operator
abbrev pub BeginsWith : ℕ → Term → Type 0
BeginsWith f (variable x) = ⊥
BeginsWith f (instrument n) = ⊥
BeginsWith f (apply g ts) = f ≡ g

-- the rules whose left side begins with the operator
pub record Beginning (rules : List Rule) (f : ℕ) (set : RuleSet) : Type 0 where
  pub only : (i : ℕ) → has set i ≡ true → (i < length rules) × BeginsWith f (left_of rules i)
  pub all : (i : ℕ) → i < length rules → BeginsWith f (left_of rules i) → has set i ≡ true

-- whether an operator may be in front where a pattern stands; None for what is no operator
abbrev pub may_begin : Term → Option ℕ → Bool
may_begin (variable x) o = true
may_begin (instrument n) None = true
may_begin (instrument n) (Some f) = false
may_begin (apply g ts) None = false
may_begin (apply g ts) (Some f) = g == f

-- whether it may be in front of the n-th term of a row of patterns, which may have fewer
abbrev pub may_begin_at : ℕ → Terms → Option ℕ → Bool
may_begin_at n nil o = true
may_begin_at zero (cons t ts) o = may_begin t o
may_begin_at (suc n) (cons t ts) o = may_begin_at n ts o

-- the same of the arguments of a pattern
abbrev pub may_begin_under : ℕ → Term → Option ℕ → Bool
may_begin_under n (variable x) o = true
may_begin_under n (instrument m) o = true
may_begin_under n (apply f ts) o = may_begin_at n ts o

-- the operator in front, if it is one
abbrev pub front : Option Symbol → Option ℕ
front None = None
front (Some (Variable x)) = None
front (Some (Instrument n)) = None
front (Some (Operator f)) = Some f

-- a rule that is not in the set does not match where the symbol is in front of its n-th argument
abbrev pub RulesOut : List Rule → ℕ → Option Symbol → RuleSet → Type 0
RulesOut rules n s set = (i : ℕ) → i < length rules → has set i ≡ false → may_begin_under n (left_of rules i) (front s) ≡ false

-- the sets say of each rule what may be in front of its n-th argument
pub record FrontsOf (rules : List Rule) (n : ℕ) (fs : Fronts) : Type 0 where
  pub operators : (i f : ℕ) (d : RuleSet) → i < length rules → f < 32 → has (slice_index_or fs.operators f d) i ≡ may_begin_under n (left_of rules i) (Some f)
  pub others : (i : ℕ) → i < length rules → has fs.others i ≡ may_begin_under n (left_of rules i) None

-- the plan of one rule
pub record PlanOf (rules : List Rule) (i : ℕ) (p : Plan) : Type 0 where
  pub known : i < length rules
  pub planned : Planned (rule_at rules i) p

-- a plan for each rule; for each operator the rules that begin with it; and what may be in front of the first two arguments
pub record IsCompiled (rules : List Rule) (c : CompiledRules) : Type 0 where
  pub many : length (items c.plans) ≡ length rules
  pub few : length rules ≤ 32
  pub plans : (i : ℕ) (d : Plan) → i < length rules → PlanOf rules i (slice_index_or (items c.plans) i d)
  pub low : (i f : ℕ) → i < length rules → BeginsWith f (left_of rules i) → f < 32
  pub begins : (f : ℕ) (d : RuleSet) → f < 32 → Beginning rules f (slice_index_or c.begins f d)
  pub first : FrontsOf rules 0 c.first
  pub second : FrontsOf rules 1 c.second
