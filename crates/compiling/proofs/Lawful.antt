-- What is known of the rules of a sheet.
use Rattle.std.proofs.Common.{◌≡◌, ℕ, ◌<◌, ◌≤◌, eqb, List, length, map, take, refl, arith}
use mathlib.Core.Logic.{∥∥₁_elim}
use Rattle.std.proofs.lemmas.List.{length-map, length-take}
use Rattle.std.proofs.lemmas.Bool.{cond-false, ne_eqb}
use Rattle.terms.specs.Term.{Term, variable, instrument, apply, Terms, nil, cons}
use Rattle.terms.specs.Signature.{Sig}
use Rattle.terms.specs.Substitution.{occurrences, occurrences_in}
use Rattle.terms.specs.Ticket.{TermOf, TermsOf}
use Rattle.terms.specs.Rule.{Rule, RuleOf}
use Rattle.rewriting.specs.Rules.{rule_at, left_of}
use Rattle.rewriting.proofs.Props.{rule_of_prop}
use Rattle.sheet.specs.declared.Sheet.{Sheet}
use Rattle.sheet.specs.Rules.{Lawful}
use Rattle.sheet.specs.Sheet.{operators_of, rules_of}
use Rattle.compiled.specs.Compiled.{BeginsWith}
use Rattle.compiling.specs.Compilable.{Compilable}

pub rule_over : (sig : Sig) (rules : List Rule) → Lawful sig rules → (i : ℕ) → i < length rules → RuleOf sig (rule_at rules i)
rule_over sig rules lawful i l = ∥∥₁_elim (lawful i l) (rule_of_prop sig (rule_at rules i)) (λ h. h)

-- a term over a signature has no variable past the eighth
module _ (sig : Sig) (x : ℕ) (past : 8 ≤ x) where
  mutual
    no_occurrence : (t : Term) → TermOf sig t → occurrences x t ≡ 0
    no_occurrence (variable y) h = cond-false {A = ℕ} (eqb x y) 1 0 (ne_eqb x y (λ e. omega (arith, e)))
    no_occurrence (instrument n) h = refl
    no_occurrence (apply f ts) h = no_occurrences ts h.2

    no_occurrences : (ts : Terms) → TermsOf sig ts → occurrences_in x ts ≡ 0
    no_occurrences nil h = refl
    no_occurrences (cons t ts) h = omega (arith, no_occurrence t h.0, no_occurrences ts h.1)

pub compilable : (sig : Sig) (r : Rule) → RuleOf sig r → Compilable r
compilable sig r h = record { operator_first = h.operator_first; linear = record { eight = λ x l. no_occurrence sig x l r.left h.left_term; once = h.linear } }

few_mapped : {A B : Type 0} (f : A → B) (l : List A) (n most : ℕ) → n ≤ most → length (map f (take n l)) ≤ most
few_mapped f l n most h = omega (arith, length-map (take n l) f, length-take n l)

few_operators : (s : Sheet) → length (operators_of s) ≤ 32
few_operators s = let os = s.signature.operators in few_mapped _ os.slots os.len 32 os.fits

declared_first : (sig : Sig) (t : Term) → TermOf sig t → (f : ℕ) → BeginsWith f t → f < length sig
declared_first sig (variable x) h f b = absurd b
declared_first sig (instrument n) h f b = absurd b
declared_first sig (apply g ts) h f b = omega (arith, h.0, b)

-- the operators with which rules begin
pub low_first : (s : Sheet) (i f : ℕ) → i < length (rules_of s) → BeginsWith f (left_of (rules_of s) i) → f < 32
low_first s i f l b =
    let over = rule_over (operators_of s) (rules_of s) s.lawful i l in
    omega (arith, declared_first (operators_of s) (left_of (rules_of s) i) over.left_term f b, few_operators s)
