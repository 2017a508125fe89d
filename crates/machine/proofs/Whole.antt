-- From what the machine keeps, the whole.
use Rattle.std.proofs.Common.{◌≡◌, refl, sym, ◌∙◌, ap, true, List, ◌++◌, length, take, drop, le-leb, length-append, ◌↔◌, Bool, ℕ, ◌≤◌, arith}
use Rattle.std.proofs.Math.Seq.{take-append_seam}
use Rattle.std.proofs.Math.Decide.{dec_le}
use Rattle.std.proofs.Math.Logic.{∥∥₁_elim}
use Rattle.terms.specs.Term.{Term}
use Rattle.terms.specs.Signature.{Declared}
use Rattle.terms.specs.Text.{text_of}
use Rattle.terms.specs.Ticket.{Ticket}
use Rattle.terms.proofs.Readable.{unique_text}
use Rattle.rewriting.specs.Rules.{RulesOf}
use Rattle.rewriting.specs.Step.{Step}
use Rattle.rewriting.specs.Reduction.{Reduces, done, more}
use Rattle.rewriting.specs.Next.{run, EndsAfter}
use Rattle.rewriting.specs.Convergent.{Convergent, Converts}
use Rattle.rewriting.proofs.Tickets.{steps_keep_tickets}
use Rattle.rewriting.proofs.Props.{rules_of_prop}
use Rattle.rewriting.proofs.Converging.{run_reduces, next_steps_end, forms_decide}
use Rattle.machine.specs.Machine.{System, held, Machine, opened}
use Rattle.machine.specs.Calls.{shown, show_entry, after}
use Rattle.machine.specs.Whole.{Holds, Shows, Whole}
use Rattle.machine.specs.Laws.{ConvergentKeep}
use Rattle.machine.proofs.Keeping.{Running, Holding, always_holding, nodes_after}

-- next steps lead from a ticket to a ticket
reduces_ticket : (s : System) → RulesOf s.operators s.rules → {t u : Term} → Reduces (Step s.rules) t u → Ticket s.operators t → Ticket s.operators u
reduces_ticket s over done h = h
reduces_ticket s over (more {a = t} {b = u} a p) h = reduces_ticket s over p (steps_keep_tickets s.operators s.rules over t u a h)

module _ (s : System) (declared : Declared s.operators) (convergent : ∥ Convergent s.operators s.rules ∥₁) (m : Machine) (kept : Holding s m) where
  over : RulesOf s.operators s.rules
  over = ∥∥₁_elim convergent (rules_of_prop s.operators s.rules) (λ c. c.over)

  shows : (e : ℕ) (t : Term) (n : ℕ) (f : Bool) → Holds m e t n f → Shows s m e (text_of s.operators (run s.rules n t))
  shows e t n f q =
      let text = text_of s.operators (run s.rules n t) in
      record {
        answers = λ buffer h. ap (λ o. (show_entry s m e buffer o).answer) q ∙ rw (le-leb (length text) (length buffer) h) refl;
        writes = λ buffer h. ap (λ o. (show_entry s m e buffer o).buffer) q ∙ rw (le-leb (length text) (length buffer) h) refl;
      }

  -- an entry shows one text
  one_text : (e : ℕ) (a b : List ℕ) → Shows s m e a → Shows s m e b → a ≡ b
  one_text e a b x y =
      let l = length-append a b in
      let p = x.answers (a ++ b) (omega arith) in
      let q = y.answers (a ++ b) (omega arith) in
      let n : length a ≡ length b = length_shown (sym p ∙ q) in
      let w = sym (x.writes (a ++ b) (omega arith)) ∙ y.writes (a ++ b) (omega arith) in
      sym (take-append_seam a (drop (length a) (a ++ b))) ∙ (λ i. take (n i) (w i)) ∙ take-append_seam b (drop (length b) (a ++ b))
    where
      length_shown : {j k : ℕ} → shown j ≡ shown k → j ≡ k
      length_shown e = cc

  running : (e : ℕ) (t : Term) (n : ℕ) (f : Bool) → Holds m e t n f → Running s t n f
  running e t n f q = kept.sound e (held t n f) q

  exactly : (e : ℕ) (t : Term) (n : ℕ) → Holds m e t n true → EndsAfter s.rules t n
  exactly e t n q = let r = running e t n true q in record { going = r.going; ended = r.ended refl }

  form_ticket : (t : Term) (n : ℕ) → Ticket s.operators t → Ticket s.operators (run s.rules n t)
  form_ticket t n h = reduces_ticket s over (run_reduces over n t) h

  decides : (d e : ℕ) (t u : Term) (n k : ℕ) (a b : List ℕ) → Holds m d t n true → Holds m e u k true → Shows s m d a → Shows s m e b → (a ≡ b) ↔ Converts s.operators s.rules t u
  decides d e t u n k a b hd he sa sb =
      let ht = (running d t n true hd).ticket in
      let hu = (running e u k true he).ticket in
      let ea = one_text d a (text_of s.operators (run s.rules n t)) sa (shows d t n true hd) in
      let eb = one_text e b (text_of s.operators (run s.rules k u)) sb (shows e u k true he) in
      let unique = unique_text s.operators declared (run s.rules n t) (run s.rules k u) (form_ticket t n ht) (form_ticket u k hu) in
      let forms = forms_decide s.operators s.rules convergent t u ht hu n k (exactly d t n hd) (exactly e u k he) in
      (λ q. forms.1 (unique.0 (sym ea ∙ q ∙ eb)), λ w. ea ∙ unique.1 (forms.0 w) ∙ sym eb)

  at_most : (e : ℕ) (t : Term) (n : ℕ) (f : Bool) → Holds m e t n f → (k : ℕ) → EndsAfter s.rules t k → n ≤ k
  at_most e t n f q k b = go (dec_le n k)
    where
      go : Dec (n ≤ k) → n ≤ k
      go (yes h) = h
      go (no h) = absurd ((running e t n f q).going k (omega arith) b.ended)

  pub whole : Whole s m
  whole = record {
    decides = decides;
    shows = shows;
    ends = λ t h. next_steps_end s.operators s.rules convergent t h;
    tickets = λ e t n f q. (running e t n f q).ticket;
    at_most = at_most;
    exactly = exactly;
    adds_up = let r = kept.room in omega arith;
  }

pub convergent_keep : ConvergentKeep
convergent_keep s declared convergent nodes entries cs =
    (whole s declared convergent (after s (opened nodes entries) cs) (always_holding s declared nodes entries cs), nodes_after s (opened nodes entries) cs)
