-- The text of a sheet, collected line by line.
use Rattle.std.proofs.Common.{rules, ◌≡◌, ◌≢◌, ℕ, ◌+◌, ◌^◌, ◌≤◌, ◌⊎◌, inl, List, [], ◌∷◌, ◌++◌, length, codes, Some, None, Option, OnSome, sym, refl, ap, ◌∙◌, ⊎_elim, arith, append_assoc, length-append}
use Rattle.std.specs.Io.KnownBytes.{Consumes, IsAtEnd}
use Rattle.std.proofs.KnownBytes.{Consumes-trans}
use Rattle.std.proofs.lemmas.List.{append-nil}
use Rattle.std.proofs.lemmas.List.Elements.{All-push}
use Rattle.console.specs.declared.line.Ending.TheVariants.{LineEnd, InputEnd}
use Rattle.console.specs.Texts.{Seen, whole_text, within, more, joined}
use Rattle.console.specs.Endings.{Collected, Ends}
use Rattle.console.specs.Fronts.{OrdinaryLine, with_ends, OrdinaryLines, to_end, IsFront}
use Rattle.console.proofs.Texts.{within_few, more_within, joined_within}

with_ends-append : (ls : List (List ℕ)) (line : List ℕ) → with_ends (ls ++ line ∷ []) ≡ with_ends ls ++ (line ++ (10 ∷ []))
with_ends-append [] line = refl
with_ends-append (l ∷ ls) line = ap (λ x. l ++ (10 ∷ x)) (with_ends-append ls line) ∙ sym (append_assoc l (10 ∷ with_ends ls) (line ++ (10 ∷ [])))

lines_push : (text line : List ℕ) → OrdinaryLines text → OrdinaryLine line → OrdinaryLines (text ++ (line ++ (10 ∷ [])))
lines_push text line (ls, each, e) h = (ls ++ line ∷ [], All-push OrdinaryLine ls line each h, ap (λ x. x ++ (line ++ (10 ∷ []))) e ∙ sym (with_ends-append ls line))

-- the input ends behind these lines
end_front : (before after : Option (List ℕ)) (lines last : List ℕ) → OrdinaryLines lines → OrdinaryLine last → Consumes before after (lines ++ last) → OnSome before (IsAtEnd after) ⊎ (2 ^ 64 ≤ length (lines ++ last) + 1) → IsFront before after (lines ++ last)
end_front None after lines last l h c e = tt
end_front (Some input) None lines last l h c e = absurd c
end_front (Some input) (Some rest) lines last l h c e = λ small.
    let all : List ℕ = lines ++ last in
    let ended : rest ≡ [] = ⊎_elim (λ (k : rest ≡ []). k) (λ (k : 2 ^ 64 ≤ length all + 1). absurd (omega (arith, ap length c, length-append all rest))) e in
    to_end lines last l h refl (c ∙ ap (λ r. all ++ r) ended ∙ append-nil all) ended

-- what the loop over the lines keeps
pub record Gathering (N : ℕ) (before now : Option (List ℕ)) (s : Seen) (count : ℕ) : Type 0 where
  pub text : List ℕ
  pub lines : OrdinaryLines text
  pub read : s ≡ within N text
  pub consumed : Consumes before now text
  pub many : count ≤ length text

-- the text that is read, and that it is the one at the front
abbrev pub Front : ℕ → Option (List ℕ) → Option (List ℕ) → Seen → Type 0
Front N before after s = (text : List ℕ) × (s ≡ within N text) × IsFront before after text

module _ (N : ℕ) (some : 1 ≤ N) (before a b : Option (List ℕ)) (s l : Seen) (count : ℕ) (g : Gathering N before a s count) where
  -- a line that is not just a dot
  ordinary : (bs : List ℕ) → Collected N bs l → l ≢ whole_text (codes ".") → OrdinaryLine bs
  ordinary bs c h = record { clean = c.clean; no_dot = λ e. h (c.read ∙ ap (within N) e ∙ within_few N (codes ".") some) }

  -- a line goes to the text with its end
  pub line_gathered : (t : Seen) → l ≢ whole_text (codes ".") → Ends N a b l (Some LineEnd) → t ≡ more N (joined N s l) (10 ∷ []) → Gathering N before b t (count + 1)
  line_gathered t h (bs, c, q) e =
      let line : List ℕ = bs ++ (10 ∷ []) in
      record {
        text = g.text ++ line;
        lines = lines_push g.text bs g.lines (ordinary bs c h);
        read = e ∙ ap (λ x. more N x (10 ∷ [])) (ap (joined N s) c.read ∙ ap (λ x. joined N x (within N bs)) g.read ∙ joined_within N g.text bs) ∙ more_within N (g.text ++ bs) (10 ∷ []) ∙ ap (within N) (append_assoc g.text bs (10 ∷ []));
        consumed = Consumes-trans before a b g.text line g.consumed q;
        many = omega (arith, g.many, length-append g.text line, length-append bs (10 ∷ []));
      }

  input_end : (last : List ℕ) → OrdinaryLine last → Consumes a b last → OnSome a (IsAtEnd b) ⊎ (2 ^ 64 ≤ length last + 1) → IsFront before b (g.text ++ last)
  input_end last h q ended = search (rules, end_front before b g.text last g.lines h, Consumes-trans before a b g.text last g.consumed q, length-append g.text last)

  -- the last line of the input is the last one of the text
  pub last_gathered : (t : Seen) → l ≢ whole_text (codes ".") → Ends N a b l (Some InputEnd) → t ≡ joined N s l → Front N before b t
  last_gathered t h (bs, some_bytes, c, q, ended) e = (
    g.text ++ bs,
    e ∙ ap (joined N s) c.read ∙ ap (λ x. joined N x (within N bs)) g.read ∙ joined_within N g.text bs,
    input_end bs (ordinary bs c h) q ended,
  )

  -- the input ends behind the lines
  pub nothing_gathered : Ends N a b l None → Front N before b s
  nothing_gathered (e, q, ended) = (
    g.text ++ [],
    g.read ∙ ap (within N) (sym (append-nil g.text)),
    input_end [] (record { clean = refl; no_dot = λ e. cc }) q (inl ended),
  )
