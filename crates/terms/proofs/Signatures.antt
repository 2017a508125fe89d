-- Looking names up, and declaring more of them.
use Rattle.std.proofs.Common.{◌≡◌, ℕ, zero, suc, ◌<◌, ◌≤◌, true, List, [], ◌∷◌, ◌++◌, length, set, Some, None, sym, ap, ◌∙◌, ⊎_elim, arith}
use Rattle.std.specs.Str.{bytes_eq}
use Rattle.std.proofs.lemmas.Slice.Eq.{bytes_eq-Decides}
use Rattle.std.proofs.lemmas.List.{get_or_append_left, get_or_push, get_or-set_same, get_or-set_other, length_push, length-set}
use Rattle.std.proofs.lemmas.List.Elements.{All-push, All-set, All-from_get_or}
use Rattle.std.proofs.lemmas.Bool.Decides.{nat_tests}
use Rattle.std.proofs.lemmas.Bool.{cond-true, cond-false, cases_Bool, cases_eq, cases_lt}
use Rattle.terms.specs.Signature.{Op, Sig, nameless, op_of, spelt, Spelt, Apart, Ranked, Declared, found_from, found}

-- what is not found is no operator's name

unfound_from : (k : ℕ) (sig : Sig) (s : List ℕ) → found_from k sig s ≡ None → (f : ℕ) → f < length sig → (op_of sig f).name ≡ s → ⊥
unfound_from k [] s e f h q = omega arith
unfound_from k (o ∷ os) s e zero h q = cc (cond-true _ (Some k) (found_from (suc k) os s) ((bytes_eq-Decides o.name s).1 q))
unfound_from k (o ∷ os) s e (suc f) h q =
    ⊎_elim (λ b. cc (cond-true _ (Some k) (found_from (suc k) os s) b)) (λ b. unfound_from (suc k) os s (sym (cond-false _ _ _ b) ∙ e) f (omega arith) q) (cases_Bool (bytes_eq o.name s))

-- one operator more

abbrev more : Sig → List ℕ → ℕ → Sig
more sig s n = sig ++ record { name = s; arity = n } ∷ []

abbrev HasName : Op → Type 0
HasName o = spelt o.name ≡ true

abbrev HasFew : Op → Type 0
HasFew o = o.arity ≤ 3

pub spelt_push : (sig : Sig) (s : List ℕ) (n : ℕ) → Spelt sig → spelt s ≡ true → Spelt (more sig s n)
spelt_push sig s n a e f = All-push HasName sig (record { name = s; arity = n }) (All-from_get_or HasName sig nameless a) e f _

pub ranked_push : (sig : Sig) (s : List ℕ) (n : ℕ) → Ranked sig → n ≤ 3 → Ranked (more sig s n)
ranked_push sig s n a l f = All-push HasFew sig (record { name = s; arity = n }) (All-from_get_or HasFew sig nameless a) l f _

pub apart_push : (sig : Sig) (s : List ℕ) (n : ℕ) → Apart sig → found sig s ≡ None → Apart (more sig s n)
apart_push sig s n a e f g h =
    let many = length_push sig (record { name = s; arity = n }) in
    let new : (k : ℕ) → length sig ≡ k → (op_of (more sig s n) k).name ≡ s = λ k l. ap (λ (o : Op). o.name) (get_or_push sig _ _ k l) in
    let old : (k : ℕ) → k < length sig → (op_of (more sig s n) k).name ≡ (op_of sig k).name = λ k l. ap (λ (o : Op). o.name) (get_or_append_left sig _ _ k l) in
    ⊎_elim
    (λ l. ⊎_elim (λ m. a f g (l, m, sym (old f l) ∙ h.2 ∙ old g m)) (λ m. absurd (unfound_from 0 sig s e f l (sym (old f l) ∙ h.2 ∙ new g (omega arith)))) (cases_lt g (length sig)))
    (λ l. ⊎_elim (λ m. absurd (unfound_from 0 sig s e g m (sym (old g m) ∙ sym h.2 ∙ new f (omega arith)))) (λ m. omega arith) (cases_lt g (length sig)))
    (cases_lt f (length sig))

pub declared_push : (sig : Sig) (s : List ℕ) (n : ℕ) → Declared sig → spelt s ≡ true → found sig s ≡ None → n ≤ 3 → Declared (more sig s n)
declared_push sig s n d e u h = record { are_spelt = spelt_push sig s n d.are_spelt e; are_apart = apart_push sig s n d.are_apart u; are_ranked = ranked_push sig s n d.are_ranked h }

-- another arity

abbrev again : Sig → ℕ → ℕ → Sig
again sig f n = set sig f (record { name = (op_of sig f).name; arity = n })

same_name : (sig : Sig) (f n g : ℕ) → f < length sig → (op_of (again sig f n) g).name ≡ (op_of sig g).name
same_name sig f n g h =
    ⊎_elim
    (λ e. ap (λ k. (op_of (again sig f n) k).name) e ∙ ap (λ (o : Op). o.name) (get_or-set_same sig f _ _ h) ∙ ap (λ k. (op_of sig k).name) (sym e))
    (λ d. ap (λ (o : Op). o.name) (get_or-set_other sig f g _ _ d))
    (cases_eq g f)

pub spelt_again : (sig : Sig) (f n : ℕ) → f < length sig → Spelt sig → Spelt (again sig f n)
spelt_again sig f n h a g = All-set HasName sig f _ (a f h) (All-from_get_or HasName sig nameless a) g _

pub apart_again : (sig : Sig) (f n : ℕ) → f < length sig → Apart sig → Apart (again sig f n)
apart_again sig f n h a i j k =
    let same = length-set sig f (record { name = (op_of sig f).name; arity = n }) in
    a i j (omega arith, omega arith, sym (same_name sig f n i h) ∙ k.2 ∙ same_name sig f n j h)

pub ranked_again : (sig : Sig) (f n : ℕ) → f < length sig → n ≤ 3 → Ranked sig → Ranked (again sig f n)
ranked_again sig f n h l a g = All-set HasFew sig f _ l (All-from_get_or HasFew sig nameless a) g _

pub declared_again : (sig : Sig) (f n : ℕ) → f < length sig → n ≤ 3 → Declared sig → Declared (again sig f n)
declared_again sig f n h l d = record { are_spelt = spelt_again sig f n h d.are_spelt; are_apart = apart_again sig f n h d.are_apart; are_ranked = ranked_again sig f n h l d.are_ranked }

-- a name has at most 12 bytes
pub spelt_short : (bs : List ℕ) → spelt bs ≡ true → length bs ≤ 12
spelt_short [] e = omega arith
spelt_short (b ∷ bs) e = grind (arith, nat_tests)
