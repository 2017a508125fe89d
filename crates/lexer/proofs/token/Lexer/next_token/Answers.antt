use Rattle.std.proofs.Common.{◌+◌, ◌≤◌, ◌∷◌, ◌++◌, length, drop, sym, refl, ap, ◌∙◌, arith, length-drop, rules}
use Rattle.std.proofs.lemmas.Slice.{between_to_end}
use Rattle.reading.specs.Tokens.{tokens, token_bytes}
use Rattle.lexer.specs.Lexing.{meaning}
use Rattle.reading.proofs.Tokens.{tokens_step}
use Rattle.lexer.proofs.token.Lexer.next_token.Goals as goal

pub slice_bounds-self-count : goal.slice_bounds-self-count
slice_bounds-self-count c = let s = tokens_step c.args.self.now.rest.now (meaning c.in_ok-token.token) c.in_ok-token.ensures in omega arith

pub slice_bounds-self-start : goal.slice_bounds-self-start
slice_bounds-self-start c =
    let s = tokens_step c.args.self.now.rest.now (meaning c.in_ok-token.token) c.in_ok-token.ensures in
    let h : c.width-width.result ≤ length c.args.self.now.rest.now = omega arith in
    search rules

pub overflow_add-self : goal.overflow_add-self
overflow_add-self c = let s = tokens_step c.args.self.now.rest.now (meaning c.in_ok-token.token) c.in_ok-token.ensures in omega (arith, c.args.self.now.fits)

pub invariant_of-self : goal.invariant_of-self
invariant_of-self c =
    let bs = c.args.self.now.rest.now in
    let s = tokens_step bs (meaning c.in_ok-token.token) c.in_ok-token.ensures in
    let long = ap length (between_to_end bs c.width-width.result (length bs) (omega arith)) ∙ length-drop c.width-width.result bs in
    record { fits = omega (arith, long, c.args.self.now.fits); few = omega (arith, c.args.self.now.few) }

pub returns : goal.returns
returns c =
    let bs = c.args.self.now.rest.now in
    let k = meaning c.in_ok-token.token in
    let at = c.args.self.now.at in
    let s = tokens_step bs k c.in_ok-token.ensures in
    let rest = between_to_end bs c.width-width.result (length bs) (omega arith) ∙ ap (λ n. drop n bs) c.width-width.ensures in
    record {
      first = s.then_tokens ∙ ap (λ l. k ∷ tokens l) (sym rest);
      part = s.its_part ∙ ap (λ l. token_bytes k ++ l) (sym rest);
      some_bytes = s.some_bytes;
      its_place = refl;
      behind = λ i. record { place = at.place + c.width-width.ensures i; line = at.line + c.line_ends.ensures i };
    }
