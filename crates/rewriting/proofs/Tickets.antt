-- Terms of a signature and its tickets, and what steps make of them.
use Rattle.std.proofs.Common.{◌≡◌, refl, sym, ◌∙◌, ap, subst, [], ◌∷◌, List, inl, inr, ℕ, zero, suc, ◌<◌, ◌≤◌, arith}
use Rattle.std.proofs.Math.Option.{some}
use Rattle.terms.specs.Term.{Term, variable, instrument, apply, Terms, nil, cons, how_many}
use Rattle.terms.specs.Signature.{Sig}
use Rattle.terms.specs.Ticket.{TermOf, TermsOf, Ticket, Tickets}
use Rattle.terms.specs.Substitution.{Substitution, fill, fill_all, occurrences, occurrences_in}
use Rattle.terms.specs.Position.{Position, part_at, part_in}
use Rattle.terms.specs.Rule.{Rule}
use Rattle.rewriting.specs.Rules.{left_of, right_of, RulesOf}
use Rattle.rewriting.specs.Step.{Step}
use Rattle.rewriting.specs.Inductive.{Root, Rewrites, at_root, within, RewritesIn, here, further}
use Rattle.rewriting.specs.Laws.{StepsKeepTickets}
use Rattle.rewriting.proofs.Filling.{in_variable, one_of, none_some, count_self}
use Rattle.rewriting.proofs.Stepping.{step_rewrites}

-- the variables of a term of a signature are below 8
mutual
  pub small : (sig : Sig) (t : Term) → TermOf sig t → (x : ℕ) → 1 ≤ occurrences x t → x < 8
  small sig (variable y) h x k = rw (in_variable x y k) h
  small sig (instrument n) h x k = absurd (omega arith)
  small sig (apply f ts) h x k = small_in sig ts h.2 x k

  small_in : (sig : Sig) (ts : Terms) → TermsOf sig ts → (x : ℕ) → 1 ≤ occurrences_in x ts → x < 8
  small_in sig nil h x k = absurd (omega arith)
  small_in sig (cons t ts) h x k = elim (one_of (occurrences x t) (occurrences_in x ts) k) [ inl j ↦ small sig t h.0 x j | inr j ↦ small_in sig ts h.1 x j ]

-- what fills a variable of a ticket is a ticket
mutual
  pub variable_ticket : (sig : Sig) (s : Substitution) (t : Term) → Ticket sig (fill s t) → (x : ℕ) → 1 ≤ occurrences x t → Ticket sig (s x)
  variable_ticket sig s (variable y) h x k = rw (in_variable x y k) h
  variable_ticket sig s (instrument n) h x k = absurd (omega arith)
  variable_ticket sig s (apply f ts) h x k = variable_tickets sig s ts h.2 x k

  variable_tickets : (sig : Sig) (s : Substitution) (ts : Terms) → Tickets sig (fill_all s ts) → (x : ℕ) → 1 ≤ occurrences_in x ts → Ticket sig (s x)
  variable_tickets sig s nil h x k = absurd (omega arith)
  variable_tickets sig s (cons t ts) h x k = elim (one_of (occurrences x t) (occurrences_in x ts) k) [ inl j ↦ variable_ticket sig s t h.0 x j | inr j ↦ variable_tickets sig s ts h.1 x j ]

pub how_many-fill_all : (s : Substitution) (ts : Terms) → how_many (fill_all s ts) ≡ how_many ts
how_many-fill_all s nil = refl
how_many-fill_all s (cons t ts) = ap suc (how_many-fill_all s ts)

-- a term of the signature whose variables are filled with tickets is a ticket
mutual
  pub fill_ticket : (sig : Sig) (s : Substitution) (t : Term) → TermOf sig t → ((x : ℕ) → 1 ≤ occurrences x t → Ticket sig (s x)) → Ticket sig (fill s t)
  fill_ticket sig s (variable y) k h = h y (rw (count_self y) (omega arith))
  fill_ticket sig s (instrument n) k h = k
  fill_ticket sig s (apply f ts) k h = (k.0, how_many-fill_all s ts ∙ k.1, fill_tickets sig s ts k.2 h)

  fill_tickets : (sig : Sig) (s : Substitution) (ts : Terms) → TermsOf sig ts → ((x : ℕ) → 1 ≤ occurrences_in x ts → Ticket sig (s x)) → Tickets sig (fill_all s ts)
  fill_tickets sig s nil k h = tt
  fill_tickets sig s (cons t ts) k h = (fill_ticket sig s t k.0 (λ x j. h x (omega arith)), fill_tickets sig s ts k.1 (λ x j. h x (omega arith)))

-- the parts of a ticket are tickets
mutual
  pub part_ticket : (sig : Sig) (t : Term) (p : Position) {b : Term} → part_at t p ≡ some b → Ticket sig t → Ticket sig b
  part_ticket sig (variable y) p e h = absurd h
  part_ticket sig (instrument n) [] {b} e h = let q : instrument n ≡ b = cc in subst (Ticket sig) q h
  part_ticket sig (instrument n) (k ∷ p) e h = absurd (none_some e)
  part_ticket sig (apply f ts) [] {b} e h = let q : apply f ts ≡ b = cc in subst (Ticket sig) q h
  part_ticket sig (apply f ts) (k ∷ p) e h = part_tickets sig ts k p e h.2

  part_tickets : (sig : Sig) (ts : Terms) (k : ℕ) (p : Position) {b : Term} → part_in ts k p ≡ some b → Tickets sig ts → Ticket sig b
  part_tickets sig nil k p e h = absurd (none_some e)
  part_tickets sig (cons t ts) zero p e h = part_ticket sig t p e h.0
  part_tickets sig (cons t ts) (suc k) p e h = part_tickets sig ts k p e h.1

module _ {sig : Sig} {rules : List Rule} (over : RulesOf sig rules) where
  pub root_ticket : {t u : Term} → Root rules t u → Ticket sig t → Ticket sig u
  root_ticket r h =
      let rule = over r.rule r.known in
      subst (Ticket sig) (sym r.after) (fill_ticket sig r.substitution (right_of rules r.rule) rule.right_term (λ x k. variable_ticket sig r.substitution (left_of rules r.rule) (subst (Ticket sig) r.before h) x (rule.bound x k)))

  mutual
    pub rewrites_ticket : {t u : Term} → Rewrites rules t u → Ticket sig t → Ticket sig u
    rewrites_ticket (at_root r) h = root_ticket r h
    rewrites_ticket (within r) h = let (k, q) = rewrites_tickets r h.2 in (h.0, q ∙ h.1, k)

    rewrites_tickets : {ts us : Terms} → RewritesIn rules ts us → Tickets sig ts → Tickets sig us × (how_many us ≡ how_many ts)
    rewrites_tickets (here r) h = ((rewrites_ticket r h.0, h.1), refl)
    rewrites_tickets (further r) h = let (k, q) = rewrites_tickets r h.1 in ((h.0, k), ap suc q)

  pub step_ticket : {t u : Term} → Step rules t u → Ticket sig t → Ticket sig u
  step_ticket a h = rewrites_ticket (step_rewrites a) h

pub steps_keep_tickets : StepsKeepTickets
steps_keep_tickets sig rules over t u a h = step_ticket over a h
