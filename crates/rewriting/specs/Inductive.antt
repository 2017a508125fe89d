-- Steps once more, by induction on the term: at the root, or in an argument.
use Rattle.std.specs.Prelude.{◌≡◌, ℕ, ◌<◌, List, length}
use Rattle.terms.specs.Term.{Term, Terms, apply, cons}
use Rattle.terms.specs.Substitution.{Substitution, fill}
use Rattle.terms.specs.Rule.{Rule}
use Rattle.rewriting.specs.Rules.{left_of, right_of}

-- a rule matches the whole term and makes another of it
pub record Root (rules : List Rule) (t u : Term) : Type 0 where
  pub rule : ℕ
  pub known : rule < length rules
  pub substitution : Substitution
  pub before : t ≡ fill substitution (left_of rules rule)
  pub after : u ≡ fill substitution (right_of rules rule)

mutual
  pub data Rewrites (rules : List Rule) : Term → Term → Type 0 where
    at_root : {t u : Term} → Root rules t u → Rewrites rules t u
    within : {f : ℕ} {ts us : Terms} → RewritesIn rules ts us → Rewrites rules (apply f ts) (apply f us)

  -- in the first term of a row, or in a further one
  pub data RewritesIn (rules : List Rule) : Terms → Terms → Type 0 where
    here : {t u : Term} {ts : Terms} → Rewrites rules t u → RewritesIn rules (cons t ts) (cons u ts)
    further : {t : Term} {ts us : Terms} → RewritesIn rules ts us → RewritesIn rules (cons t ts) (cons t us)
