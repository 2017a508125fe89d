-- The writing of a text, symbol by symbol.
use Rattle.std.proofs.Common.{◌≡◌, ℕ, suc, ◌+◌, ◌<◌, ◌≤◌, List, [], ◌∷◌, ◌++◌, length, drop, Some, None, Ok, sym, refl, ap, ◌∙◌, subst, arith}
use Rattle.std.proofs.lemmas.List.{append_assoc, append-nil}
use Rattle.terms.specs.Term.{Term, Terms, nil, cons, symbols_in}
use Rattle.terms.specs.Signature.{Sig}
use Rattle.terms.specs.Text.{text_of}
use Rattle.terms.specs.View.{Answers}
use Rattle.traversal.specs.declared.pending.Pending.{Pending}
use Rattle.traversal.specs.Walks.{most_symbols, Counted, Written}
use Rattle.traversal.specs.Rows.{row_of, StandAll}
use Rattle.traversal.specs.declared.write.writer.Writer.{Writer}
use Rattle.traversal.specs.Bytes.{over, Lays, Puts}
use Rattle.traversal.specs.Pendings.{places, pending_text, weight, Stepped, Layable, OfSize, SomeOfSize, Laying}
use Rattle.traversal.proofs.Rows.{under, symbols_under, stands_under, length_le_symbols}
use Rattle.traversal.proofs.Overlays.{puts_none, puts_both, puts_as, over_front}
use Rattle.traversal.proofs.Texts.{row_le}

-- the stack has room for the arguments of its top term
pub room_for : (v : Answers) (item : Pending) (es : List Pending) (ts : Terms) → StandAll v (places (item ∷ es)) ts → symbols_in ts ≤ most_symbols → length (row_of v item.place) + length es ≤ most_symbols
unfolding most_symbols
room_for v item es nil s few = absurd s
room_for v item es (cons t ts) (s, all) few =
    let row = row_le v item.place 3 0 (under t) (stands_under v item.place t s) in
    let one = symbols_under t in
    let rest = length_le_symbols v (places es) ts all in
    let same = length-places es in
    omega arith
  where
    length-places : (es : List Pending) → length (places es) ≡ length es
    length-places [] = refl
    length-places (e ∷ es) = ap suc (length-places es)

pub laying_start : (sig : Sig) (v : Answers) (p n : ℕ) (stack : List Pending) (w : Writer) → stack ≡ record { place = p; lead = None; closings = 0 } ∷ [] → w.len ≡ 0 → Laying sig v p n 0 stack w w
laying_start sig v p n stack w e none = record {
  bytes = [];
  puts = puts_none w;
  rest = λ t h. (
    cons t nil,
    subst (λ l. StandAll v (places l) (cons t nil)) (sym e) (h.0, tt),
    omega (arith, h.1),
    sym (append-nil (text_of sig t)) ∙ ap (λ l. pending_text sig l (cons t nil)) (sym e),
  );
  little = omega (arith, ap weight e);
}

pub laying_again : (sig : Sig) (v : Answers) (p n k : ℕ) (item : Pending) (stack before after : List Pending) (old mid new : Writer) → stack ≡ item ∷ before → Laying sig v p n k stack old mid → Stepped sig v (item ∷ before) after mid new → Laying sig v p n (k + 1) after old new
laying_again sig v p n k item stack before after old mid new e l s = record {
  bytes = l.bytes ++ s.bytes;
  puts = puts_both l.puts s.puts;
  rest = λ t h.
      let one = l.rest t h in
      let two = s.taken one.0 (subst (λ x. StandAll v (places x) one.0) e one.1) in (
        two.0,
        two.1,
        omega (arith, one.2, two.2),
        one.3
            ∙ ap (λ x. l.bytes ++ pending_text sig x one.0) e
            ∙ ap (λ x. l.bytes ++ x) two.3
            ∙ sym (append_assoc l.bytes s.bytes (pending_text sig after two.0)),
      );
  little = omega (arith, l.little, s.little, ap weight e);
}

pub laying_layable : (sig : Sig) (v : Answers) (p n k : ℕ) (item : Pending) (stack before : List Pending) (old new : Writer) → SomeOfSize v p n → k < n → stack ≡ item ∷ before → Laying sig v p n k stack old new → Layable v (item ∷ before) new.len
unfolding most_symbols
laying_layable sig v p n k item stack before old new some less e l =
    let one = l.rest some.term some.is in
    record {
      terms = one.0;
      stand = subst (λ x. StandAll v (places x) one.0) e one.1;
      few = omega (arith, one.2, some.few);
      low = omega (arith, l.little, ap weight e, some.few);
    }

no_symbols : (sig : Sig) (v : Answers) (stack : List Pending) (us : Terms) → symbols_in us ≡ 0 → StandAll v (places stack) us → pending_text sig stack us ≡ []
no_symbols sig v [] us e s = refl
no_symbols sig v (item ∷ es) nil e s = refl
no_symbols sig v (item ∷ es) (cons t ts) e s = let one = symbols_under t in absurd (let z : ⊥ = omega arith in z)

pub laying_end : (sig : Sig) (v : Answers) (p n k : ℕ) (stack : List Pending) (old new : Writer) → n ≤ k → Laying sig v p n k stack old new → (t : Term) → OfSize v p n t → Puts (text_of sig t) old new
laying_end sig v p n k stack old new all l t h =
    let one = l.rest t h in
    puts_as (sym (one.3 ∙ ap (λ x. l.bytes ++ x) (no_symbols sig v stack one.0 (omega (arith, one.2)) one.1) ∙ append-nil l.bytes)) l.puts

-- what a writer that began with nothing has written
pub laid : {bytes before after : List ℕ} {u w : Writer} {r : ℕ} → Puts bytes u w → u.buffer.now ≡ before → u.len ≡ 0 → after ≡ w.buffer.now → r ≡ w.len → Lays bytes before 0 after r
laid {bytes} {before} {u = u} p b none a e = record {
  buffer = a ∙ p.lays.buffer ∙ ap (λ l. over l u.len bytes) b ∙ ap (λ k. over before k bytes) none;
  end = omega (arith, p.lays.end);
}

-- the text at the front of the buffer
pub written : (sig : Sig) (v : Answers) (p n len r : ℕ) (short before after : List ℕ) → Counted v p (Some n) → ((t : Term) → OfSize v p n t → Lays (text_of sig t) [] 0 short len) → ((t : Term) → OfSize v p n t → Lays (text_of sig t) before 0 after r) → len ≤ length before → Written sig v p before after (Ok len)
written sig v p n len r short before after (t, stands, size) first second fits =
    let is : len ≡ length (text_of sig t) = omega (arith, (first t (stands.0, size)).end) in
    (t, stands, is, fits, (second t (stands.0, size)).buffer ∙ over_front before (text_of sig t) (omega arith) ∙ ap (λ k. text_of sig t ++ drop k before) (sym is))
