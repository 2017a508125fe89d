-- The texts of pending terms.
use Rattle.std.proofs.Common.{◌≡◌, ℕ, zero, suc, ◌+◌, ◌<◌, ◌≤◌, Bool, true, false, not, is_some, List, [], ◌∷◌, ◌++◌, length, replicate, Some, None, Option, Ok, Err, Result, sym, refl, ap, ◌∙◌, subst, add-one, get_or, drop, arith}
use Rattle.std.proofs.lemmas.Bool.{true≢false, false≢true}
use Rattle.std.proofs.lemmas.List.{append_assoc, append-nil}
use Rattle.std.specs.Result.{IsErr}
use Rattle.fixed_vec.specs.declared.Full.{Full}
use Rattle.traversal.specs.Walks.{most_symbols}
use Rattle.terms.specs.Term.{Term, variable, instrument, apply, Terms, nil, cons, symbols, symbols_in}
use Rattle.terms.specs.Signature.{Sig}
use Rattle.terms.specs.Text.{text_of, arguments_text, others_text}
use Rattle.terms.specs.View.{Answers, Stands, StandFrom}
use Rattle.traversal.specs.declared.pending.Lead.{Lead}
use Rattle.traversal.specs.declared.pending.Pending.{Pending}
use Rattle.traversal.specs.Rows.{ahead, row_from, row_of, padded, StandAll}
use Rattle.traversal.specs.declared.write.writer.Writer.{Writer}
use Rattle.traversal.specs.Bytes.{Puts}
use Rattle.traversal.specs.Pendings.{lead_text, symbol_text, places, pending_text, weight, others, children, Spread, Taken, Stepped}
use Rattle.traversal.proofs.Rows.{top, under, both, symbols_under, symbols_both, stands_top, stands_under, from_to_all, join, row_short}
use Rattle.traversal.proofs.Slots.{heaped}

text_under : (sig : Sig) (t : Term) → text_of sig t ≡ symbol_text sig (Some (top t)) ++ arguments_text sig (under t)
text_under sig (variable x) = refl
text_under sig (instrument n) = sym (append-nil (symbol_text sig (Some (top (instrument n)))))
text_under sig (apply f ts) = refl

-- how long a row of arguments is
pub row_le : (v : Answers) (p n k : ℕ) (ts : Terms) → StandFrom v p k ts → length (row_from v p k n) ≤ symbols_in ts
row_le v p zero k ts s = omega arith
row_le v p (suc n) k nil s = subst (λ o. length (ahead o (row_from v p (suc k) n)) ≤ 0) (sym s) (omega arith)
row_le v p (suc n) k (cons t ts) s =
    let ih = row_le v p n (suc k) ts s.3 in
    let one = symbols_under t in
    subst (λ o. length (ahead o (row_from v p (suc k) n)) ≤ symbols t + symbols_in ts) (sym s.1) (omega arith)

-- the arguments among the pending terms: where they stand, and what they weigh
places_others : (c : ℕ) (ps : List ℕ) (es : List Pending) → places (others c ps ++ es) ≡ ps ++ places es
places_others c [] es = refl
places_others c (p ∷ []) es = refl
places_others c (p ∷ q ∷ ps) es = ap (λ l. p ∷ l) (places_others c (q ∷ ps) es)

places_children : (c : ℕ) (ps : List ℕ) (es : List Pending) → places (children c ps ++ es) ≡ ps ++ places es
places_children c [] es = refl
places_children c (p ∷ []) es = refl
places_children c (p ∷ q ∷ ps) es = ap (λ l. p ∷ l) (places_others c (q ∷ ps) es)

weight_others : (c p : ℕ) (ps : List ℕ) (es : List Pending) → weight (others c (p ∷ ps) ++ es) ≡ length (p ∷ ps) + c + weight es
weight_others c p [] es = omega arith
weight_others c p (q ∷ ps) es = let ih = weight_others c q ps es in omega arith

weight_children : (c : ℕ) (ps : List ℕ) (es : List Pending) → 1 ≤ length ps → weight (children c ps ++ es) ≡ length ps + c + weight es
weight_children c [] es some = absurd (let z : ⊥ = omega arith in z)
weight_children c (p ∷ []) es some = omega arith
weight_children c (p ∷ q ∷ ps) es some = let ih = weight_others c q ps es in omega arith

-- one closing parenthesis more
closing_more : (c : ℕ) (x rest : List ℕ) → x ++ (replicate (c + 1) 41 ++ rest) ≡ (x ++ 41 ∷ []) ++ (replicate c 41 ++ rest)
closing_more c x rest = ap (λ k. x ++ (replicate k 41 ++ rest)) (add-one c) ∙ sym (append_assoc x (41 ∷ []) (replicate c 41 ++ rest))

text_others : (sig : Sig) (v : Answers) (c p : ℕ) (ps : List ℕ) (es : List Pending) (t : Term) (ts us : Terms) → StandAll v ps ts → pending_text sig (others (c + 1) (p ∷ ps) ++ es) (cons t (both ts us)) ≡ others_text sig (cons t ts) ++ (replicate c 41 ++ pending_text sig es us)
text_others sig v c p [] es t nil us s = ap (λ l. 44 ∷ l) (closing_more c (text_of sig t) (pending_text sig es us))
text_others sig v c p [] es t (cons u ts) us s = absurd s
text_others sig v c p (q ∷ ps) es t nil us s = absurd s
text_others sig v c p (q ∷ ps) es t (cons u ts) us s =
    ap (λ l. 44 ∷ (text_of sig t ++ l)) (text_others sig v c q ps es u ts us s.1)
    ∙ ap (λ l. 44 ∷ l) (sym (append_assoc (text_of sig t) (others_text sig (cons u ts)) (replicate c 41 ++ pending_text sig es us)))

text_children : (sig : Sig) (v : Answers) (c : ℕ) (ps : List ℕ) (es : List Pending) (ts us : Terms) → 1 ≤ length ps → StandAll v ps ts → pending_text sig (children (c + 1) ps ++ es) (both ts us) ≡ arguments_text sig ts ++ (replicate c 41 ++ pending_text sig es us)
text_children sig v c [] es ts us some s = absurd (let z : ⊥ = omega arith in z)
text_children sig v c (p ∷ ps) es nil us some s = absurd s
text_children sig v c (p ∷ []) es (cons t nil) us some s = ap (λ l. 40 ∷ l) (closing_more c (text_of sig t) (pending_text sig es us))
text_children sig v c (p ∷ []) es (cons t (cons u ts)) us some s = absurd s.1
text_children sig v c (p ∷ q ∷ ps) es (cons t nil) us some s = absurd s.1
text_children sig v c (p ∷ q ∷ ps) es (cons t (cons u ts)) us some s =
    ap (λ l. 40 ∷ (text_of sig t ++ l)) (text_others sig v c q ps es u ts us s.1.1)
    ∙ ap (λ l. 40 ∷ l) (sym (append_assoc (text_of sig t) (others_text sig (cons u ts)) (replicate c 41 ++ pending_text sig es us)))

-- the text of a pending term, from its symbol on
opened_text : (sig : Sig) (v : Answers) (p : ℕ) (t : Term) (before rest : List ℕ) → Stands v p t → before ++ (text_of sig t ++ rest) ≡ (before ++ symbol_text sig (v.symbol p)) ++ (arguments_text sig (under t) ++ rest)
opened_text sig v p t before rest s =
    ap (λ l. before ++ (l ++ rest)) (text_under sig t ∙ ap (λ o. symbol_text sig o ++ arguments_text sig (under t)) (sym (stands_top v p t s)))
    ∙ ap (λ l. before ++ l) (append_assoc (symbol_text sig (v.symbol p)) (arguments_text sig (under t)) rest)
    ∙ sym (append_assoc before (symbol_text sig (v.symbol p)) (arguments_text sig (under t) ++ rest))

no_arguments_text : (sig : Sig) (v : Answers) (row : List ℕ) (ts : Terms) → row ≡ [] → StandAll v row ts → ts ≡ nil
no_arguments_text sig v row nil e s = refl
no_arguments_text sig v row (cons t ts) e s = absurd (subst (λ l. StandAll v l (cons t ts)) e s)

-- what writing a symbol takes from the pending terms: with arguments, and without
abbrev head_text : Sig → Answers → Pending → List ℕ
head_text sig v item = lead_text item.lead ++ symbol_text sig (v.symbol item.place)

taken_arguments : (sig : Sig) (v : Answers) (item : Pending) (es : List Pending) → v.argument item.place 3 ≡ None → 1 ≤ length (row_of v item.place) → Taken sig v (head_text sig v item) (item ∷ es) (children (item.closings + 1) (row_of v item.place) ++ es)
taken_arguments sig v item es few some nil s = absurd s
taken_arguments sig v item es few some (cons t us) (s, all) =
    let row = row_of v item.place in
    let c = item.closings in
    let under_all = from_to_all v item.place 3 0 (under t) few (stands_under v item.place t s) in
    let one = symbols_under t in
    let sum = symbols_both (under t) us in (
      both (under t) us,
      subst (λ l. StandAll v l (both (under t) us)) (sym (places_children (c + 1) row es)) (join v row (places es) (under t) us under_all all),
      omega arith,
      opened_text sig v item.place t (lead_text item.lead) (replicate c 41 ++ pending_text sig es us) s
          ∙ ap (λ l. head_text sig v item ++ l) (sym (text_children sig v c row es (under t) us some under_all)),
    )

taken_bare : (sig : Sig) (v : Answers) (item : Pending) (es : List Pending) → v.argument item.place 3 ≡ None → row_of v item.place ≡ [] → Taken sig v (head_text sig v item ++ replicate item.closings 41) (item ∷ es) es
taken_bare sig v item es few none nil s = absurd s
taken_bare sig v item es few none (cons t us) (s, all) =
    let c = item.closings in
    let bare = no_arguments_text sig v (row_of v item.place) (under t) none (from_to_all v item.place 3 0 (under t) few (stands_under v item.place t s)) in
    let one = symbols_under t in
    let zeros = ap symbols_in bare in (
      us,
      all,
      omega arith,
      opened_text sig v item.place t (lead_text item.lead) (replicate c 41 ++ pending_text sig es us) s
          ∙ ap (λ l. head_text sig v item ++ (arguments_text sig l ++ (replicate c 41 ++ pending_text sig es us))) bare
          ∙ sym (append_assoc (head_text sig v item) (replicate c 41) (pending_text sig es us)),
    )

pub stepped_arguments : (sig : Sig) (v : Answers) (item : Pending) (before after : List Pending) (old new : Writer) → Puts (head_text sig v item) old new → new.len ≤ old.len + length (lead_text item.lead) + 12 → 0 < length (row_of v item.place) → after ≡ children (item.closings + 1) (row_of v item.place) ++ before → v.argument item.place 3 ≡ None → Stepped sig v (item ∷ before) after old new
stepped_arguments sig v item before after old new puts short some put few =
    let row = row_of v item.place in
    let three = row_short v item.place 3 0 in
    let all = ap weight put in
    let sum = weight_children (item.closings + 1) row before some in
    record {
      bytes = head_text sig v item;
      puts = puts;
      taken = subst (λ l. Taken sig v (head_text sig v item) (item ∷ before) l) (sym put) (taken_arguments sig v item before few some);
      little = omega arith;
    }

pub stepped_bare : (sig : Sig) (v : Answers) (item : Pending) (before : List Pending) (old new : Writer) → Puts (head_text sig v item ++ replicate item.closings 41) old new → new.len ≤ old.len + length (lead_text item.lead) + 12 + item.closings → row_of v item.place ≡ [] → v.argument item.place 3 ≡ None → Stepped sig v (item ∷ before) before old new
stepped_bare sig v item before old new puts short none few = record {
  bytes = head_text sig v item ++ replicate item.closings 41;
  puts = puts;
  taken = taken_bare sig v item before few none;
  little = omega arith;
}

-- whether the first slot of a row is free
first_slot : (p : ℕ) (ps : List ℕ) → get_or (padded (p ∷ ps)) 0 None ≡ Some p
first_slot p [] = refl
first_slot p (q ∷ []) = refl
first_slot p (q ∷ r ∷ ps) = refl

pub first_free : (row : List ℕ) (slots : List (Option ℕ)) (r : Bool) → slots ≡ padded row → is_some (get_or slots 0 None) ≡ not r → r ≡ true → row ≡ []
first_free [] slots r e is h = refl
first_free (p ∷ ps) slots r e is h =
    absurd (true≢false (sym (ap is_some (ap (λ l. get_or l 0 None) e ∙ first_slot p ps)) ∙ is ∙ ap not h))

pub first_taken : (row : List ℕ) (slots : List (Option ℕ)) (r : Bool) → slots ≡ padded row → is_some (get_or slots 0 None) ≡ not r → r ≡ false → 0 < length row
first_taken [] slots r e is h = absurd (false≢true (sym (ap is_some (ap (λ l. get_or l 0 None) e)) ∙ is ∙ ap not h))
first_taken (p ∷ ps) slots r e is h = omega arith

-- the arguments that are still to be put onto the stack, and those that are on it
heaped_long : (c : ℕ) (xs : List (Option ℕ × Lead)) (es : List Pending) → length es ≤ length (heaped c xs es)
heaped_long c [] es = omega arith
heaped_long c ((None, l) ∷ xs) es = heaped_long c xs es
heaped_long c ((Some p, l) ∷ xs) es = let ih = heaped_long 0 xs (record { place = p; lead = Some l; closings = c } ∷ es) in omega arith

pub heaped_more : (c : ℕ) (xs : List (Option ℕ × Lead)) (i p : ℕ) (d : Option ℕ × Lead) (es : List Pending) → i < length xs → (get_or xs i d).0 ≡ Some p → length es < length (heaped c (drop i xs) es)
heaped_more c [] i p d es h e = absurd (let z : ⊥ = omega arith in z)
heaped_more c ((None, k) ∷ xs) zero p d es h e = let z : ◌≡◌ {A = ℕ} 0 1 = cc in omega arith
heaped_more c ((Some q, k) ∷ xs) zero p d es h e = let ih = heaped_long 0 xs (record { place = q; lead = Some k; closings = c } ∷ es) in omega arith
heaped_more c (x ∷ xs) (suc i) p d es h e = heaped_more c xs i p d es (omega arith) e

-- the slots of a row as they are gone through
abbrev pub led : Lead → Lead → Lead → List (Option ℕ) → List (Option ℕ × Lead)
led j k l slots = (get_or slots 2 None, j) ∷ (get_or slots 1 None, k) ∷ (get_or slots 0 None, l) ∷ []

pub heaped_length : (c : ℕ) (j k l : Lead) (row : List ℕ) (slots : List (Option ℕ)) (es : List Pending) → slots ≡ padded row → length row ≤ 3 → length (heaped c (led j k l slots) es) ≡ length row + length es
heaped_length c j k l [] slots es e few = rw e (omega arith)
heaped_length c j k l (p ∷ []) slots es e few = rw e (omega arith)
heaped_length c j k l (p ∷ q ∷ []) slots es e few = rw e (omega arith)
heaped_length c j k l (p ∷ q ∷ r ∷ []) slots es e few = rw e (omega arith)
heaped_length c j k l (p ∷ q ∷ r ∷ s ∷ row) slots es e few = absurd (let z : ⊥ = omega arith in z)

pub not_spread : (r : Result (Unit {0}) Full) (c m i p : ℕ) (j k l : Lead) (slots : List (Option ℕ)) (d : Option ℕ × Lead) (before mid after : List Pending) → IsErr r → i < 3 → (get_or (led j k l slots) i d).0 ≡ Some p → heaped m (drop i (led j k l slots)) mid ≡ heaped c (led j k l slots) before → 16384 ≤ length mid → Spread c slots before after r
unfolding most_symbols
not_spread (Ok u) c m i p j k l slots d before mid after is h at e full = absurd (true≢false (sym is))
not_spread (Err u) c m i p j k l slots d before mid after is h at e full = λ row held few.
    let more = heaped_more m (led j k l slots) i p d mid h at in
    let all = heaped_length c j k l row slots before held few in
    let same = ap length e in
    omega arith
