-- The worked cases hold.
use Rattle.std.proofs.Common.{zero, suc, ◌++◌, refl, inl, inr, arith}
use Rattle.rewriting.specs.Order.{AllIn}
use Rattle.sheet_reading.specs.Cases.{house_rules}
use Rattle.orders.specs.Linear.{StrictlyOriented, WeaklyOriented}
use Rattle.orders.specs.Cases.{house, exchange, unary, names, shifting_rules, falling_rules, Strict, Worked}

house_falls : AllIn (StrictlyOriented house) house_rules
house_falls zero h = (record { coefficients = λ x. omega arith; constants = omega arith }, omega arith)
house_falls (suc zero) h = (record { coefficients = λ x. omega arith; constants = omega arith }, omega arith)
house_falls (suc (suc zero)) h = (record { coefficients = λ x. omega arith; constants = omega arith }, omega arith)
house_falls (suc (suc (suc zero))) h = (record { coefficients = λ x. omega arith; constants = omega arith }, omega arith)
house_falls (suc (suc (suc (suc zero)))) h = (record { coefficients = λ x. omega arith; constants = omega arith }, omega arith)
house_falls (suc (suc (suc (suc (suc zero))))) h = (record { coefficients = λ x. omega arith; constants = omega arith }, omega arith)
house_falls (suc (suc (suc (suc (suc (suc k)))))) h = absurd (omega arith)

exchange_is_not : WeaklyOriented house exchange → ⊥
exchange_is_not h = omega (arith, h.coefficients 1)

shift : AllIn (Strict (unary 1 1 ++ unary 2 1)) shifting_rules
shift zero h = inr (record { coefficients = λ x. omega arith; constants = omega arith }, (record { coefficients = λ x. omega arith; constants = omega arith }, omega arith))
shift (suc zero) h = inl (record { coefficients = λ x. omega arith; constants = omega arith }, omega arith)
shift (suc (suc k)) h = absurd (omega arith)

fall : AllIn (Strict names) falling_rules
fall zero h = inl (record { coefficients = λ x. omega arith; constants = omega arith }, omega arith)
fall (suc zero) h = inl (record { coefficients = λ x. omega arith; constants = omega arith }, omega arith)
fall (suc (suc k)) h = absurd (omega arith)

pub worked : Worked
worked = record {
  a_weight = refl;
  a_constant = refl;
  its_first_coefficient = refl;
  its_second_coefficient = refl;
  its_third_coefficient = refl;
  the_constant_after = refl;
  house_rules_fall = house_falls;
  seventh_does_not_fall = λ h. exchange_is_not h.0;
  seventh_does_not_hold = exchange_is_not;
  nor_by_the_pair = elim [ inl h ↦ exchange_is_not h.0 | inr h ↦ exchange_is_not h.0 ];
  both_shift = shift;
  first_does_not_fall = elim [ inl h ↦ omega (arith, h.1) | inr h ↦ omega (arith, h.1.1) ];
  first_holds = inr (record { coefficients = λ x. omega arith; constants = omega arith }, record { coefficients = λ x. omega arith; constants = omega arith });
  second_falls = inl (record { coefficients = λ x. omega arith; constants = omega arith }, omega arith);
  names_fall = fall;
}
