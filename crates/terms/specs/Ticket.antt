-- The terms of a signature, and its tickets.
use Rattle.std.specs.Prelude.{◌≡◌, ◌<◌, ◌≤◌, length}
use Rattle.terms.specs.Term.{Term, variable, instrument, apply, Terms, nil, cons, how_many}
use Rattle.terms.specs.Signature.{Sig, op_of}

-- a term over a signature: variables 0 to 7, instruments 0 to 999,999, each operator declared and over as many arguments as its arity says
abbrev mutual
  pub TermOf : Sig → Term → Type 0
  TermOf sig (variable x) = x < 8
  TermOf sig (instrument n) = n ≤ 999999
  TermOf sig (apply f ts) = (f < length sig) × (how_many ts ≡ (op_of sig f).arity) × TermsOf sig ts

  pub TermsOf : Sig → Terms → Type 0
  TermsOf sig nil = Unit {0}
  TermsOf sig (cons t ts) = TermOf sig t × TermsOf sig ts

-- a ticket is such a term without variables
abbrev mutual
  pub Ticket : Sig → Term → Type 0
  Ticket sig (variable x) = ⊥
  Ticket sig (instrument n) = n ≤ 999999
  Ticket sig (apply f ts) = (f < length sig) × (how_many ts ≡ (op_of sig f).arity) × Tickets sig ts

  pub Tickets : Sig → Terms → Type 0
  Tickets sig nil = Unit {0}
  Tickets sig (cons t ts) = Ticket sig t × Tickets sig ts
