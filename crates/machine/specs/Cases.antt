-- Worked cases: what the machine answers on the house sheet, and which sheets are admitted.
use Rattle.std.specs.Prelude.{◌≡◌, ℕ, List, [], ◌∷◌, ◌++◌, replicate, Some, None, Option, codes}
use Rattle.terms.specs.Term.{instrument}
use Rattle.terms.specs.Rule.{Rule}
use Rattle.rewriting.specs.Convergent.{Convergent, Converts}
use Rattle.reading.specs.declared.refusal.Refusal.{Refusal}
use Rattle.reading.specs.declared.fault.TextFault.TheVariants.{Unexpected}
use Rattle.reading.specs.Refusals.{text_refusal}
use Rattle.reading.specs.Cases.{sample, at}
use Rattle.sheet_reading.specs.Values.{Grid}
use Rattle.sheet_reading.specs.Cases.{house_values, house_rules, neg, both}
use Rattle.machine.specs.Refusals.{not_oriented, different_ends, side_short, wrong_length, no_room, is_held, too_short, no_entry}
use Rattle.machine.specs.Machine.{System, opened}
use Rattle.machine.specs.Reducing.{finished, spent, short}
use Rattle.machine.specs.Calls.{Call, enter, reduce, show, strike, free, Answer, entered, reduced, shown, struck, counted, refused, answers_to, buffers_of}
use Rattle.machine.specs.Admission.{Admission}
use Rattle.machine.specs.Laws.{KeptByAll}
use Rattle.orders.specs.Cases.{Strict, exchange, unary, shifting_rules, names, falling_rules}

-- nil, neg and both, and their six rules
abbrev pub house : System
house = record { operators = sample; rules = house_rules }

abbrev pub worked : List ℕ
worked = codes "neg(both(#7,neg(#9)))"

-- a buffer of so many zero bytes
abbrev pub blank : ℕ → List ℕ
blank n = replicate n 0

-- these calls in so many nodes and entries get these answers
abbrev pub answered : ℕ → ℕ → List Call → List Answer → Type 0
answered nodes entries cs xs = answers_to house (opened nodes entries) cs ≡ xs

-- and these buffers, those of the shows among them
abbrev pub written : ℕ → ℕ → List Call → List (List ℕ) → Type 0
written nodes entries cs ls = buffers_of house (opened nodes entries) cs ≡ ls

-- so many steps, and finished, spent or short
abbrev pub done : ℕ → Answer
done n = reduced (record { steps = n; stop = finished })

abbrev pub used_up : ℕ → Answer
used_up n = reduced (record { steps = n; stop = spent })

abbrev pub cut_short : ℕ → Answer
cut_short n = reduced (record { steps = n; stop = short })

-- the calls of the example
abbrev pub session : List Call
session = enter 0 worked ∷ reduce 0 1 ∷ show 0 (blank 28) ∷ reduce 0 9 ∷ show 0 (blank 18) ∷ free ∷ enter 0 (codes "nil") ∷ []

pub record Worked : Type 0 where
  -- the ticket, allowed 1 step, is spent after 1; then, allowed 9, finished after 1 more; 124 of 128 nodes are then free, and the entry is held
  pub session_answers : answered 128 16 session (entered ∷ used_up 1 ∷ shown 26 ∷ done 1 ∷ shown 16 ∷ counted 124 ∷ refused (is_held 0) ∷ [])
  pub session_writes : written 128 16 session ([] ∷ [] ∷ (codes "both(neg(#7),neg(neg(#9)))" ++ blank 2) ∷ [] ∷ (codes "both(neg(#7),#9)" ++ blank 2) ∷ [] ∷ [] ∷ [])
  -- allowed 9 at once: in 6 nodes finished after 2 steps with 2 free, in 5 nodes short with none made and none free
  pub six_nodes : answered 6 1 (enter 0 worked ∷ reduce 0 9 ∷ free ∷ []) (entered ∷ done 2 ∷ counted 2 ∷ [])
  pub five_nodes : answered 5 1 (enter 0 worked ∷ reduce 0 9 ∷ free ∷ []) (entered ∷ cut_short 0 ∷ counted 0 ∷ [])
  -- none allowed; and once more when it is finished
  pub none_allowed : answered 128 16 (enter 0 worked ∷ reduce 0 0 ∷ reduce 0 2 ∷ reduce 0 2 ∷ []) (entered ∷ used_up 0 ∷ done 2 ∷ done 0 ∷ [])
  -- a show with too short a buffer, and of an entry that is empty or not in the table; a refused show writes nothing
  pub show_refused : answered 128 16 (enter 0 worked ∷ show 0 (blank 20) ∷ show 1 (blank 20) ∷ show 16 (blank 20) ∷ []) (entered ∷ refused (too_short 0) ∷ refused (no_entry 1) ∷ refused (no_entry 16) ∷ [])
  pub show_stays : written 128 16 (enter 0 worked ∷ show 0 (blank 20) ∷ show 1 (blank 20) ∷ []) ([] ∷ blank 20 ∷ blank 20 ∷ [])
  pub exact_buffer : written 128 16 (enter 0 worked ∷ show 0 (blank 21) ∷ []) ([] ∷ worked ∷ [])
  -- the text's refusal first, then 20, 18 and 17
  pub enter_refused : answered 4 2 (enter 2 (codes "neg(A)") ∷ enter 2 worked ∷ enter 0 (codes "nil") ∷ enter 0 worked ∷ enter 1 worked ∷ []) (refused (text_refusal (Unexpected (at 4))) ∷ refused (no_entry 2) ∷ entered ∷ refused (is_held 0) ∷ refused (no_room 5 3) ∷ [])
  -- a strike frees the nodes
  pub struck_free : answered 8 2 (enter 0 worked ∷ free ∷ strike 0 ∷ free ∷ strike 0 ∷ reduce 0 1 ∷ enter 0 (codes "nil") ∷ free ∷ []) (entered ∷ counted 3 ∷ struck ∷ counted 8 ∷ refused (no_entry 0) ∷ refused (no_entry 0) ∷ entered ∷ counted 7 ∷ [])

-- ---- admission, under the default order

-- what admission answers under the order that these lines of values give
abbrev pub admits : Grid → ℕ → List Rule → Option Refusal → Type 0
admits values nodes rules answer = Admission (Strict values) nodes rules answer

pub record WorkedAdmissions : Type 0 where
  pub the_house_sheet : admits house_values 4096 house_rules None
  -- names of bases 3, 2 and 1, with a=b and a=c
  pub different : admits names 4096 falling_rules (Some (different_ends 0 1))
  -- both(A,B)=both(B,A) added
  pub added_exchange : admits house_values 4096 (house_rules ++ exchange ∷ []) (Some (not_oriented 6))
  -- p(A)=q(A) and q(q(A))=p(A), with bases 1 and 1, then 2 and 1; and without the second weighing
  pub two_weighings : admits (unary 1 1 ++ unary 2 1) 4096 shifting_rules None
  pub first_alone : admits (unary 1 1) 4096 shifting_rules (Some (not_oriented 0))
  -- of the overlap of rules 2 and 5 both sides end with 8 symbols: in 16 nodes the second fits beside the first, in 15 it is short
  pub sixteen_nodes : admits house_values 16 house_rules None
  pub fifteen_nodes : admits house_values 15 house_rules (Some (side_short 2 5))
  -- no overlap can be tested in a pool without nodes; a pool too long is refused before all else
  pub no_nodes : admits house_values 0 house_rules (Some (side_short 0 0))
  pub too_long : admits house_values 16385 (house_rules ++ exchange ∷ []) (Some (wrong_length 16385))

-- what is so of the house sheet: its rules are convergent, and what holds after every list of calls
pub record HouseKeeps : Type 0 where
  pub converge : Convergent house.operators house.rules
  pub keep : KeptByAll house
  -- two tickets with one normal form are joined by a conversion, and two with different ones by none
  pub joined : Converts house.operators house.rules (neg (both (instrument 7) (neg (instrument 9)))) (both (neg (instrument 7)) (neg (neg (instrument 9))))
  pub parted : Converts house.operators house.rules (neg (instrument 7)) (instrument 7) → ⊥
