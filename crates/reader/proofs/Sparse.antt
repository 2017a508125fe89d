-- A text has at least two bytes for each node, but for the last.
use Rattle.std.proofs.Common.{◌≡◌, ℕ, zero, suc, ◌+◌, ◌*◌, ◌≤◌, List, [], ◌∷◌, ◌++◌, length, get_or, Some, None, Ok, Err, Option, Result, refl, ap, subst, arith, length-append, length-set}
use Rattle.terms.specs.declared.node.Node.{Node}
use Rattle.terms.specs.Term.{Term}
use Rattle.terms.specs.Signature.{Sig, op_of, found}
use Rattle.terms.specs.Nodes.{vacant}
use Rattle.reading.specs.declared.token.At.{At}
use Rattle.reading.specs.declared.token.Mark.{Mark}
use Rattle.reading.specs.declared.token.Mark.TheVariants.{Opening, Closing, Comma, Equals, Dash, Blank, LineEnd}
use Rattle.reading.specs.declared.fault.TextFault.{TextFault}
use Rattle.reading.specs.Tokens.{Tok, token_bytes, past, a_name, a_number, an_instrument, a_variable, a_mark, a_stray}
use Rattle.reading.specs.Numbers.{instrument_number}
use Rattle.reading.specs.Reading.{Context, top, within, State, wants, opens, has, named, with_name, with_number, on_wants, on_opens_mark, on_opens, closed, continued, on_has_mark, on_has, step}
use Rattle.reader.specs.declared.parser.Parser.{Parser}
use Rattle.reader.specs.Machine.{Stepped}
use Rattle.reader.specs.Parsing.{stack_nodes, state_nodes, Holds, Sparse}
use Rattle.reader.proofs.Stacks.{closed_nodes, continued_nodes}

-- the state that follows, if one does, is sparse at the place behind
abbrev Then : ℕ → Result State TextFault → Type 0
Then place (Ok s) = Sparse s place
Then place (Err e) = Unit {0}

module _ (sig : Sig) (at : At) (place b : ℕ) (some_bytes : 1 ≤ b) where
  one_more : (ns : List Node) (n : Node) → 2 * length ns ≤ place → 2 * length (ns ++ n ∷ []) ≤ place + b + 1
  one_more ns n h = omega (arith, length-append ns (n ∷ []))

  after_named : (f n : ℕ) (k : Context) → Sparse (wants k) place → Sparse (named f n at k) (place + b)
  after_named f zero k h = one_more (stack_nodes k) _ h
  after_named f (suc n) k h = one_more (stack_nodes k) _ h

  after_name : (o : Option ℕ) (k : Context) → Sparse (wants k) place → Then (place + b) (with_name sig o at k)
  after_name None k h = tt
  after_name (Some f) k h = after_named f (op_of sig f).arity k h

  after_number : (o : Option ℕ) (k : Context) → Sparse (wants k) place → Then (place + b) (with_number o at k)
  after_number None k h = tt
  after_number (Some n) k h = one_more (stack_nodes k) _ h

  after_wants : (tok : Tok) (k : Context) → Sparse (wants k) place → Then (place + b) (on_wants sig tok at k)
  after_wants (a_name s) k h = after_name (found sig s) k h
  after_wants (a_number s) k h = tt
  after_wants (an_instrument s) k h = after_number (instrument_number s) k h
  after_wants (a_variable x) k h = tt
  after_wants (a_mark m) k h = tt
  after_wants (a_stray x) k h = tt

  after_opens_mark : (m : Mark) (f : ℕ) (a : At) (n : ℕ) (k : Context) → Sparse (opens f a n k) place → Then (place + b) (on_opens_mark m f a n k)
  after_opens_mark Opening f a n k h = omega arith
  after_opens_mark Closing f a n k h = tt
  after_opens_mark Comma f a n k h = tt
  after_opens_mark Equals f a n k h = tt
  after_opens_mark Dash f a n k h = tt
  after_opens_mark Blank f a n k h = tt
  after_opens_mark LineEnd f a n k h = tt

  after_opens : (tok : Tok) (f : ℕ) (a : At) (n : ℕ) (k : Context) → Sparse (opens f a n k) place → Then (place + b) (on_opens tok at f a n k)
  after_opens (a_name s) f a n k h = tt
  after_opens (a_number s) f a n k h = tt
  after_opens (an_instrument s) f a n k h = tt
  after_opens (a_variable x) f a n k h = tt
  after_opens (a_mark m) f a n k h = after_opens_mark m f a n k h
  after_opens (a_stray x) f a n k h = tt

  after_closed : (t : Term) (m : Option At) (k : Context) → Sparse (has t m k) place → Then (place + b) (closed t k at)
  after_closed t m top h = tt
  after_closed t m (within f a ts zero k) h = omega (arith, ap length (closed_nodes t f (stack_nodes k) ts))
  after_closed t m (within f a ts (suc n) k) h = tt

  after_continued : (t : Term) (m : Option At) (k : Context) → Sparse (has t m k) place → Then (place + b) (continued t k at)
  after_continued t m top h = tt
  after_continued t m (within f a ts zero k) h = tt
  after_continued t m (within f a ts (suc n) k) h =
      let ns : List Node = state_nodes (has t m (within f a ts (suc n) k)) in
      omega (arith, ap length (continued_nodes t f (stack_nodes k) ts (length ns) refl), length-set ns (length (stack_nodes (within f a ts (suc n) k))) (record { symbol = (get_or ns (length (stack_nodes (within f a ts (suc n) k))) vacant).symbol; first = (get_or ns (length (stack_nodes (within f a ts (suc n) k))) vacant).first; next = Some (length ns) }))

  after_has_mark : (mk : Mark) (t : Term) (m : Option At) (k : Context) → Sparse (has t m k) place → Then (place + b) (on_has_mark mk at t m k)
  after_has_mark Opening t m k h = tt
  after_has_mark Closing t m k h = after_closed t m k h
  after_has_mark Comma t m k h = after_continued t m k h
  after_has_mark Equals t m k h = tt
  after_has_mark Dash t m k h = tt
  after_has_mark Blank t m k h = tt
  after_has_mark LineEnd t m k h = tt

  after_has : (tok : Tok) (t : Term) (m : Option At) (k : Context) → Sparse (has t m k) place → Then (place + b) (on_has tok at t m k)
  after_has (a_name s) t m k h = tt
  after_has (a_number s) t m k h = tt
  after_has (an_instrument s) t m k h = tt
  after_has (a_variable x) t m k h = tt
  after_has (a_mark mk) t m k h = after_has_mark mk t m k h
  after_has (a_stray x) t m k h = tt

  after_step : (tok : Tok) (s : State) → Sparse s place → Then (place + b) (step sig s at tok)
  after_step tok (wants k) h = after_wants tok k h
  after_step tok (opens f a n k) h = after_opens tok f a n k h
  after_step tok (has t m k) h = after_has tok t m k h

  pub sparse_step : (tok : Tok) (s next : State) → Sparse s place → step sig s at tok ≡ Ok next → Sparse next (place + b)
  sparse_step tok s next h e = subst (Then (place + b)) e (after_step tok s h)

-- after one token: the next state is sparse behind the token
pub steps_on : (sig : Sig) (at : At) (tok : Tok) (s : State) (r : Result (Unit {0}) TextFault) (p : Parser) → 1 ≤ length (token_bytes tok) → Sparse s at.place → Stepped r (step sig s at tok) (Holds p)
    → Stepped r (step sig s at tok) (λ u. Holds p u × Sparse u (past at tok).place)
steps_on sig at tok s (Ok x) p b h (u, e, holds) = (u, e, (holds, sparse_step sig at at.place (length (token_bytes tok)) b tok s u h e))
steps_on sig at tok s (Err f) p b h e = e
