-- The house sheet is admitted under the default order of its values, and what follows.
use Rattle.std.proofs.Common.{◌≡◌, refl, sym, ap, subst, List, [], ◌∷◌, Some, None, codes, ◌++◌, slice_index_or, ℕ, zero, suc, ◌+◌, ◌<◌, ◌≤◌, true, ltb, inl, arith}
use Rattle.std.specs.List.{AllByRecursion}
use Rattle.std.specs.Fmt.{digits}
use Rattle.std.proofs.lemmas.List.{get_or_append_left}
use Rattle.std.proofs.lemmas.Bool.{cond_both, ltb-true}
use Rattle.std.proofs.Math.Decide.{ℕ_discrete}
use Rattle.terms.specs.Term.{Term, instrument}
use Rattle.terms.specs.Signature.{Sig, Declared}
use Rattle.terms.specs.Rule.{Rule, RuleOf}
use Rattle.rewriting.specs.Rules.{rule_at, RulesOf}
use Rattle.rewriting.specs.Order.{OrderLaws}
use Rattle.rewriting.specs.Convergent.{Convergent, Converts}
use Rattle.reading.specs.Reading.{read_ticket, ticket_limit}
use Rattle.sheet_reading.specs.Values.{Grid, cell}
use Rattle.sheet_reading.specs.Sheet.{SheetShaped}
use Rattle.sheet_reading.specs.Laws.{Explained}
use Rattle.sheet_reading.specs.Cases.{house_text, house_values, house_rules, neg, both}
use Rattle.sheet_reading.proofs.Reading.{sheet_law}
use Rattle.sheet_reading.proofs.Cases.{worked}
use Rattle.sheet_reading.specs.Cases.{house as house_sheet}
use Rattle.machine.specs.Machine.{Machine, opened}
use Rattle.machine.specs.Calls.{enter, reduce, after}
use Rattle.machine.specs.Whole.{Holds, Whole}
use Rattle.machine.specs.Laws.{KeptByAll}
use Rattle.machine.specs.Admission.{scratch_limit, step_limit, Admission, no_pool, unoriented, tested}
use Rattle.orders.specs.Linear.{Linear, linear_in, Heavier, AsHeavy}
use Rattle.orders.specs.LinearLaws.{linear_laws}
use Rattle.orders.specs.Lexicographic.{Then}
use Rattle.orders.specs.PairLaws.{then_laws}
use Rattle.orders.specs.Default.{DefaultWeak}
use Rattle.orders.specs.Cases.{first, second, Strict, exchange}
use Rattle.orders.proofs.Worked.{worked as oriented}
use Rattle.weighing.specs.Weighing.{times}
use Rattle.machine.specs.Cases.{house, WorkedAdmissions, HouseKeeps}
use Rattle.machine.proofs.Admitting.{admitted_converge, admitted_keep}

-- ---- the default order of the house sheet

-- every factor is at least 1, if those of the three lines are
positive_in : (grid : Grid) (from : ℕ) → ((k f : ℕ) → k < 3 → 1 ≤ times (cell grid (from + suc k) f)) → (f k : ℕ) → 1 ≤ (linear_in grid from).factor f k
positive_in grid from h f k =
    cond_both (ltb (suc k) 4) (cell grid (from + suc k) f) (Some 1) (λ v. 1 ≤ times v) (λ e. h k f (omega (arith, ltb-true (suc k) 4 e))) (λ e. omega arith)

first_positive : (k f : ℕ) → k < 3 → 1 ≤ times (cell house_values (0 + suc k) f)
first_positive zero zero h = omega arith
first_positive zero (suc zero) h = omega arith
first_positive zero (suc (suc zero)) h = omega arith
first_positive zero (suc (suc (suc f))) h = omega arith
first_positive (suc zero) zero h = omega arith
first_positive (suc zero) (suc zero) h = omega arith
first_positive (suc zero) (suc (suc zero)) h = omega arith
first_positive (suc zero) (suc (suc (suc f))) h = omega arith
first_positive (suc (suc zero)) zero h = omega arith
first_positive (suc (suc zero)) (suc zero) h = omega arith
first_positive (suc (suc zero)) (suc (suc zero)) h = omega arith
first_positive (suc (suc zero)) (suc (suc (suc f))) h = omega arith
first_positive (suc (suc (suc k))) f h = absurd (omega arith)

-- the second weighing is missing
second_positive : (k f : ℕ) → k < 3 → 1 ≤ times (cell house_values (4 + suc k) f)
second_positive zero f h = omega arith
second_positive (suc zero) f h = omega arith
second_positive (suc (suc zero)) f h = omega arith
second_positive (suc (suc (suc k))) f h = absurd (omega arith)

abbrev m : Linear
m = first house_values

abbrev n : Linear
n = second house_values

house_order : (sig : Sig) → Declared sig → OrderLaws sig (Then (Heavier m) (AsHeavy m) (Heavier n)) (Then (Heavier m) (AsHeavy m) (AsHeavy n)) (Strict house_values) (DefaultWeak m n)
house_order sig d = then_laws (linear_laws m (positive_in house_values 0 first_positive) sig) (linear_laws n (positive_in house_values 4 second_positive) sig)

-- each rule of the house sheet falls
house_falls : (k : ℕ) → k < 6 → Strict house_values (rule_at house_rules k)
house_falls k h = inl (oriented.house_rules_fall k h)

-- it was read
shaped : SheetShaped house_sheet
shaped = (subst (Explained house_text) worked.the_house_sheet (sheet_law house_text).explained).0

rules_of : (sig : Sig) (rules : List Rule) → AllByRecursion (RuleOf sig) rules → RulesOf sig rules
rules_of sig [] h k l = absurd (omega arith)
rules_of sig (r ∷ rules) h zero l = h.0
rules_of sig (r ∷ rules) h (suc k) l = rules_of sig rules h.1 k (omega arith)

house_rules_over : RulesOf house.operators house.rules
house_rules_over = rules_of house.operators house.rules shaped.lawful

house_admitted : Admission (Strict house_values) 4096 house_rules None
unfolding scratch_limit step_limit ℕ_discrete
house_admitted = tested (omega arith) house_falls refl

pub worked_admissions : WorkedAdmissions
unfolding scratch_limit step_limit ℕ_discrete
worked_admissions = record {
  the_house_sheet = house_admitted;
  different = tested (omega arith) oriented.names_fall refl;
  added_exchange = unoriented (omega arith) 6 (record { known = omega arith; outside = oriented.nor_by_the_pair; earlier = earlier }) refl;
  two_weighings = tested (omega arith) oriented.both_shift refl;
  first_alone = unoriented (omega arith) 0 (record { known = omega arith; outside = oriented.first_does_not_fall; earlier = λ k h. absurd (omega arith) }) refl;
  sixteen_nodes = tested (omega arith) house_falls refl;
  fifteen_nodes = tested (omega arith) house_falls refl;
  no_nodes = tested (omega arith) house_falls refl;
  too_long = no_pool (omega arith) refl;
}
  where
    earlier : (k : ℕ) → k < 6 → Strict house_values (rule_at (house_rules ++ exchange ∷ []) k)
    earlier k h = subst (Strict house_values) (sym (get_or_append_left house_rules (exchange ∷ []) _ k h)) (house_falls k h)

-- ---- so the whole holds

house_converge : Convergent house.operators house.rules
house_converge = admitted_converge (Then (Heavier m) (AsHeavy m) (Heavier n)) (Then (Heavier m) (AsHeavy m) (AsHeavy n)) (Strict house_values) (DefaultWeak m n) house_order house.operators shaped.declared house.rules house_rules_over 4096 house_admitted

house_keep : KeptByAll house
house_keep = admitted_keep (Then (Heavier m) (AsHeavy m) (Heavier n)) (Then (Heavier m) (AsHeavy m) (AsHeavy n)) (Strict house_values) (DefaultWeak m n) house_order house shaped.declared house_rules_over 4096 house_admitted

-- two tickets, entered and reduced
abbrev both_reduced : List ℕ → List ℕ → Machine
both_reduced a b = after house (opened 128 2) (enter 0 a ∷ enter 1 b ∷ reduce 0 9 ∷ reduce 1 9 ∷ [])

pub house_keeps : HouseKeeps
unfolding read_ticket ticket_limit digits
house_keeps = record { converge = house_converge; keep = house_keep; joined = joined; parted = parted }
  where
    first : Term
    first = neg (both (instrument 7) (neg (instrument 9)))

    second : Term
    second = both (neg (instrument 7)) (neg (neg (instrument 9)))

    joined : Converts house.operators house.rules first second
    joined =
        let m = both_reduced (codes "neg(both(#7,neg(#9)))") (codes "both(neg(#7),neg(neg(#9)))") in
        let w : Whole house m = (house_keep 128 2 (enter 0 (codes "neg(both(#7,neg(#9)))") ∷ enter 1 (codes "both(neg(#7),neg(neg(#9)))") ∷ reduce 0 9 ∷ reduce 1 9 ∷ [])).0 in
        let a : Holds m 0 first 2 true = refl in
        let b : Holds m 1 second 1 true = refl in
        (w.decides 0 1 first second 2 1 _ _ a b (w.shows 0 first 2 true a) (w.shows 1 second 1 true b)).0 refl

    parted : Converts house.operators house.rules (neg (instrument 7)) (instrument 7) → ⊥
    parted c =
        let m = both_reduced (codes "neg(#7)") (codes "#7") in
        let w : Whole house m = (house_keep 128 2 (enter 0 (codes "neg(#7)") ∷ enter 1 (codes "#7") ∷ reduce 0 9 ∷ reduce 1 9 ∷ [])).0 in
        let a : Holds m 0 (neg (instrument 7)) 0 true = refl in
        let b : Holds m 1 (instrument 7) 0 true = refl in
        let e = (w.decides 0 1 (neg (instrument 7)) (instrument 7) 0 0 _ _ a b (w.shows 0 (neg (instrument 7)) 0 true a) (w.shows 1 (instrument 7) 0 true b)).1 c in
        let z : ◌≡◌ {A = ℕ} 110 35 = ap (λ l. slice_index_or l 0 0) e in
        omega arith
