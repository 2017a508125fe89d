-- The visits to what a step made, put on top one by one, the last first.
use Rattle.std.proofs.Common.{◌≡◌, sym, ◌∙◌, ap, List, [], ◌∷◌, Bool, true, false, cond, ℕ, suc, ◌+◌, ◌-◌, ◌<◌, ◌≤◌, length, reverse, get_or, drop, arith}
use Rattle.std.specs.List.{All}
use Rattle.std.proofs.Math.Seq.{drop-cons, drop-length}
use Rattle.std.proofs.lemmas.List.{length-drop, length-reverse, get_or-reverse}
use Rattle.engine.specs.declared.visits.Visit.{Visit}
use Rattle.engine.specs.declared.visits.Visit.TheVariants.{Reached}
use Rattle.engine.specs.Revisits.{visits_to}

pub length-visits_to : (places ks : List ℕ) (vs : List Visit) → length (visits_to places ks vs) ≡ length ks + length vs
length-visits_to places [] vs = omega arith
length-visits_to places (k ∷ ks) vs = let a = length-visits_to places ks vs in omega arith

-- after k of the numbers, from the last on
abbrev pub Revisiting : List ℕ → List ℕ → List Visit → ℕ → List Visit → Type 0
Revisiting numbers places start k now = All (λ j. j < length places) numbers → length (visits_to places numbers start) ≤ 16384 → now ≡ visits_to places (drop (length numbers - k) numbers) start

pub none_revisited : (numbers places : List ℕ) (start now : List Visit) → (length (visits_to places numbers start) ≤ 16384 → now ≡ start) → Revisiting numbers places start 0 now
none_revisited numbers places start now e in_range room =
    let z : length numbers ≡ length numbers - 0 = omega arith in
    e room ∙ ap (λ l. visits_to places l start) (sym (drop-length numbers) ∙ ap (λ k. drop k numbers) z)

pub all_revisited : (numbers places : List ℕ) (start now : List Visit) (k : ℕ) → length numbers ≤ k → Revisiting numbers places start k now → All (λ j. j < length places) numbers → length (visits_to places numbers start) ≤ 16384 → now ≡ visits_to places numbers start
all_revisited numbers places start now k h w in_range room =
    let z : length numbers - k ≡ 0 = omega arith in
    w in_range room ∙ ap (λ i. visits_to places (drop i numbers) start) z

module _ (numbers made : List ℕ) (start now : List Visit) (k : ℕ) (before : k < length numbers) (w : Revisiting numbers (reverse made) start k now) where
  one_more : drop (length numbers - (k + 1)) numbers ≡ get_or numbers (length numbers - 1 - k) 0 ∷ drop (length numbers - k) numbers
  one_more =
      let a : length numbers - (k + 1) ≡ length numbers - 1 - k = omega arith in
      let b : suc (length numbers - 1 - k) ≡ length numbers - k = omega arith in
      ap (λ i. drop i numbers) a ∙ drop-cons numbers (length numbers - 1 - k) 0 (omega arith) ∙ ap (λ i. get_or numbers (length numbers - 1 - k) 0 ∷ drop i numbers) b

  known : All (λ j. j < length (reverse made)) numbers → get_or numbers (length numbers - 1 - k) 0 < length made
  known in_range = let a = in_range (length numbers - 1 - k) 0 (omega arith) in omega (arith, length-reverse made)

  pub one_revisited : (after : List Visit) → (length now < 16384 → after ≡ Reached (get_or made (length made - 1 - get_or numbers (length numbers - 1 - k) 0) 0) ∷ now) → Revisiting numbers (reverse made) start (k + 1) after
  one_revisited after e in_range room =
      let a = w in_range room in
      let x = length-visits_to (reverse made) numbers start in
      let y = length-visits_to (reverse made) (drop (length numbers - k) numbers) start in
      let z = ap length a in
      let l = length-drop (length numbers - k) numbers in
      e (omega arith)
      ∙ (λ d. Reached (sym (get_or-reverse made (get_or numbers (length numbers - 1 - k) 0) 0 (known in_range)) d) ∷ a d)
      ∙ ap (λ l. visits_to (reverse made) l start) (sym one_more)

  -- each number is that of a place
  pub out_of_range : (after : List Visit) → length made ≤ get_or numbers (length numbers - 1 - k) 0 → Revisiting numbers (reverse made) start (k + 1) after
  out_of_range after h in_range room = let a = known in_range in absurd (let z : ⊥ = omega arith in z)

-- the first symbol's visit comes last
pub root_visit : (b : Bool) (places numbers : List ℕ) (x : Visit) (old now : List Visit) → true ≡ b → (length old < 16384 → now ≡ x ∷ old) → length (visits_to places numbers (cond b (x ∷ old) old)) ≤ 16384 → now ≡ cond b (x ∷ old) old
root_visit true places numbers x old now e h room = let a = length-visits_to places numbers (x ∷ old) in h (omega arith)
root_visit false places numbers x old now e h room = absurd (let z : ◌≡◌ {A = ℕ} 0 1 = cc in let w : ⊥ = omega arith in w)

pub no_root_visit : (b : Bool) (x : Visit) (old now : List Visit) → false ≡ b → now ≡ old → now ≡ cond b (x ∷ old) old
no_root_visit true x old now e h = absurd (let z : ◌≡◌ {A = ℕ} 0 1 = cc in let w : ⊥ = omega arith in w)
no_root_visit false x old now e h = h
