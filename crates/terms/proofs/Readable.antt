-- A text is the text of one term at most: two terms whose texts agree, each with a rest that begins with no letter or digit, are equal.
use Rattle.std.proofs.Common.{◌≡◌, ℕ, ◌+◌, ◌%◌, ◌<◌, ◌≤◌, true, false, List, [], ◌∷◌, ◌++◌, decimal, sym, refl, ap, ◌∙◌, append_assoc, arith}
use Rattle.std.proofs.lemmas.Fmt.{decimal_by_steps, decimal_injective}
use Rattle.std.proofs.lemmas.List.Folds.{list_all-append}
use Rattle.std.proofs.lemmas.Bool.Decides.{nat_tests}
use Rattle.std.proofs.lemmas.Bool.{both_ways, and_parts, and_from}
use Rattle.terms.specs.Term.{Term, variable, instrument, apply, Terms, nil, cons, how_many}
use Rattle.terms.specs.Signature.{Sig, op_of, word, all_words, spelt, Declared}
use Rattle.terms.specs.Ticket.{TermOf, TermsOf, Ticket, Tickets}
use Rattle.terms.specs.Text.{text_of, arguments_text, others_text}
use Rattle.terms.specs.Laws.{UniqueText, UniqueTermText}

-- a text that begins with no lower-case letter or digit
abbrev Ended : List ℕ → Type 0
Ended [] = Unit {0}
Ended (b ∷ bs) = word b ≡ false

head_of : {b c : ℕ} {bs cs : List ℕ} → b ∷ bs ≡ c ∷ cs → b ≡ c
head_of e = cc

tail_of : {b c : ℕ} {bs cs : List ℕ} → b ∷ bs ≡ c ∷ cs → bs ≡ cs
tail_of e = cc

-- two runs of letters and digits, each with what ends it
runs : (xs ys r q : List ℕ) → all_words xs ≡ true → all_words ys ≡ true → Ended r → Ended q → xs ++ r ≡ ys ++ q → (xs ≡ ys) × (r ≡ q)
runs [] [] r q wx wy hr hq e = (refl, e)
runs [] (y ∷ ys) [] q wx wy hr hq e = cc
runs [] (y ∷ ys) (b ∷ bs) q wx wy hr hq e = absurd (both_ways (word b) hr (ap word (head_of e) ∙ (and_parts (word y) _ wy).0))
runs (x ∷ xs) [] r [] wx wy hr hq e = cc
runs (x ∷ xs) [] r (b ∷ bs) wx wy hr hq e = absurd (both_ways (word b) hq (ap word (sym (head_of e)) ∙ (and_parts (word x) _ wx).0))
runs (x ∷ xs) (y ∷ ys) r q wx wy hr hq e =
    let (a, b) = runs xs ys r q (and_parts (word x) _ wx).1 (and_parts (word y) _ wy).1 hr hq (tail_of e) in
    let h : x ≡ y = head_of e in
    (cc, b)

digit_word : (k : ℕ) → k < 10 → all_words ((48 + k) ∷ []) ≡ true
digit_word k h = grind (arith, nat_tests)

pub decimal_words : (n : ℕ) → n ≤ 999999 → all_words (decimal n) ≡ true
decimal_words n h = decimal_by_steps (λ _ ds. all_words ds ≡ true) (λ k j. digit_word k j) (λ k ds j w. list_all-append word ds ((48 + k % 10) ∷ []) ∙ and_from _ _ w (digit_word (k % 10) (omega arith))) n (omega arith)

pub spelt_words : (bs : List ℕ) → spelt bs ≡ true → all_words bs ≡ true
spelt_words [] e = refl
spelt_words (b ∷ bs) e = grind (arith, nat_tests)

-- a name begins with a lower-case letter
not_name : (bs r q : List ℕ) (b : ℕ) → spelt bs ≡ true → b < 97 → b ∷ q ≡ bs ++ r → ⊥
not_name [] r q b h k e = cc
not_name (c ∷ bs) r q b h k e =
    let j : b ≡ c = cc in
    grind (arith, nat_tests)

ended_arguments : (sig : Sig) (ts : Terms) (r : List ℕ) → Ended r → Ended (arguments_text sig ts ++ r)
ended_arguments sig nil r h = h
ended_arguments sig (cons t ts) r h = refl

ended_others : (sig : Sig) (ts : Terms) (r : List ℕ) → Ended (others_text sig ts ++ r)
ended_others sig nil r = refl
ended_others sig (cons t ts) r = refl

module _ {sig : Sig} (good : Declared sig) where
  mutual
    term_same : (t u : Term) (r q : List ℕ) → TermOf sig t → TermOf sig u → Ended r → Ended q → text_of sig t ++ r ≡ text_of sig u ++ q → (t ≡ u) × (r ≡ q)
    term_same (variable x) (variable y) r q a b hr hq e =
        let h : 65 + x % 16 ≡ 65 + y % 16 = head_of e in
        let j : x ≡ y = omega arith in
        (ap variable j, tail_of e)
    term_same (variable x) (instrument m) r q a b hr hq e = let h : 65 + x % 16 ≡ 35 = head_of e in absurd (omega arith)
    term_same (variable x) (apply g us) r q a b hr hq e =
        absurd (not_name (op_of sig g).name (arguments_text sig us ++ q) r (65 + x % 16) (good.are_spelt g b.0) (omega arith) (e ∙ append_assoc (op_of sig g).name (arguments_text sig us) q))
    term_same (instrument n) (variable y) r q a b hr hq e = let h : 35 ≡ 65 + y % 16 = head_of e in absurd (omega arith)
    term_same (instrument n) (instrument m) r q a b hr hq e =
        let (h, j) = runs (decimal n) (decimal m) r q (decimal_words n a) (decimal_words m b) hr hq (tail_of e) in
        (ap instrument (decimal_injective n m (omega arith) (omega arith) h), j)
    term_same (instrument n) (apply g us) r q a b hr hq e =
        absurd (not_name (op_of sig g).name (arguments_text sig us ++ q) (decimal n ++ r) 35 (good.are_spelt g b.0) (omega arith) (e ∙ append_assoc (op_of sig g).name (arguments_text sig us) q))
    term_same (apply f ts) (variable y) r q a b hr hq e =
        absurd (not_name (op_of sig f).name (arguments_text sig ts ++ r) q (65 + y % 16) (good.are_spelt f a.0) (omega arith) (sym e ∙ append_assoc (op_of sig f).name (arguments_text sig ts) r))
    term_same (apply f ts) (instrument m) r q a b hr hq e =
        absurd (not_name (op_of sig f).name (arguments_text sig ts ++ r) (decimal m ++ q) 35 (good.are_spelt f a.0) (omega arith) (sym e ∙ append_assoc (op_of sig f).name (arguments_text sig ts) r))
    term_same (apply f ts) (apply g us) r q a b hr hq e =
        let (h, j) = runs (op_of sig f).name (op_of sig g).name (arguments_text sig ts ++ r) (arguments_text sig us ++ q) (spelt_words (op_of sig f).name (good.are_spelt f a.0)) (spelt_words (op_of sig g).name (good.are_spelt g b.0)) (ended_arguments sig ts r hr) (ended_arguments sig us q hq) (sym (append_assoc (op_of sig f).name (arguments_text sig ts) r) ∙ e ∙ append_assoc (op_of sig g).name (arguments_text sig us) q) in
        let k : f ≡ g = good.are_apart f g (a.0, b.0, h) in
        let many : how_many ts ≡ how_many us = a.1 ∙ ap (λ z. (op_of sig z).arity) k ∙ sym b.1 in
        let (v, w) = arguments_same ts us r q a.2 b.2 hr hq many j in
        (cc, w)

    arguments_same : (ts us : Terms) (r q : List ℕ) → TermsOf sig ts → TermsOf sig us → Ended r → Ended q → how_many ts ≡ how_many us → arguments_text sig ts ++ r ≡ arguments_text sig us ++ q → (ts ≡ us) × (r ≡ q)
    arguments_same nil nil r q a b hr hq n e = (refl, e)
    arguments_same nil (cons u us) r q a b hr hq n e = absurd (omega arith)
    arguments_same (cons t ts) nil r q a b hr hq n e = absurd (omega arith)
    arguments_same (cons t ts) (cons u us) r q a b hr hq n e =
        let (h, j) = term_same t u (others_text sig ts ++ r) (others_text sig us ++ q) a.0 b.0 (ended_others sig ts r) (ended_others sig us q) (sym (append_assoc (text_of sig t) (others_text sig ts) r) ∙ tail_of e ∙ append_assoc (text_of sig u) (others_text sig us) q) in
        let (k, i) = others_same ts us r q a.1 b.1 hr hq j in
        (cc, i)

    others_same : (ts us : Terms) (r q : List ℕ) → TermsOf sig ts → TermsOf sig us → Ended r → Ended q → others_text sig ts ++ r ≡ others_text sig us ++ q → (ts ≡ us) × (r ≡ q)
    others_same nil nil r q a b hr hq e = (refl, tail_of e)
    others_same nil (cons u us) r q a b hr hq e = let h : ◌≡◌ {A = ℕ} 41 44 = head_of e in absurd (omega arith)
    others_same (cons t ts) nil r q a b hr hq e = let h : ◌≡◌ {A = ℕ} 44 41 = head_of e in absurd (omega arith)
    others_same (cons t ts) (cons u us) r q a b hr hq e =
        let (h, j) = term_same t u (others_text sig ts ++ r) (others_text sig us ++ q) a.0 b.0 (ended_others sig ts r) (ended_others sig us q) (sym (append_assoc (text_of sig t) (others_text sig ts) r) ∙ tail_of e ∙ append_assoc (text_of sig u) (others_text sig us) q) in
        let (k, i) = others_same ts us r q a.1 b.1 hr hq j in
        (cc, i)

pub unique_term_text : UniqueTermText
unique_term_text sig good t u a b e = (term_same good t u [] [] a b tt tt (ap (λ z. z ++ []) e)).0

-- tickets are terms of the signature
mutual
  pub ticket_term : (sig : Sig) (t : Term) → Ticket sig t → TermOf sig t
  ticket_term sig (variable x) h = absurd h
  ticket_term sig (instrument n) h = h
  ticket_term sig (apply f ts) h = (h.0, h.1, tickets_terms sig ts h.2)

  pub tickets_terms : (sig : Sig) (ts : Terms) → Tickets sig ts → TermsOf sig ts
  tickets_terms sig nil h = tt
  tickets_terms sig (cons t ts) h = (ticket_term sig t h.0, tickets_terms sig ts h.1)

pub unique_text : UniqueText
unique_text sig good t u a b = (unique_term_text sig good t u (ticket_term sig t a) (ticket_term sig u b), ap (text_of sig))
