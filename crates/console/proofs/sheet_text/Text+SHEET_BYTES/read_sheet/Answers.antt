use Rattle.std.proofs.Common.{[], ◌∷◌, Some, ap, ◌∙◌, subst, arith}
use Rattle.std.proofs.lemmas.Bool.{false≢true}
use Rattle.console.specs.Texts.{seen, more}
use Rattle.console.specs.Endings.{Ends}
use Rattle.console.proofs.Fronts.{line_gathered, last_gathered, nothing_gathered}
use Rattle.console.proofs.sheet_text.Text+SHEET_BYTES.read_sheet.Goals as goal

pub loop-preserved : goal.loop-preserved
loop-preserved g c =
    let ends = subst (Ends 32768 _ _ _) (c.in-Some.is ∙ ap Some c.in-LineEnd.is) c.in_ok-ending.ensures in
    line_gathered 32768 (omega arith) _ _ _ _ _ _ c.loop.invariant (seen c.push.new.self) (λ e. absurd (false≢true (c.if-is_dot.ensures.1 e))) ends (c.push.ensures ∙ ap (λ s. more 32768 s (10 ∷ [])) c.append.ensures)

pub returns-in-InputEnd : goal.returns-in-InputEnd
returns-in-InputEnd g c =
    let ends = subst (Ends 32768 _ _ _) (c.in-Some.is ∙ ap Some c.in-InputEnd.is) c.in_ok-ending.ensures in
    last_gathered 32768 (omega arith) _ _ _ _ _ _ c.loop.invariant (seen c.append.new.self) (λ e. absurd (false≢true (c.if-is_dot.ensures.1 e))) ends c.append.ensures

pub returns-in_default : goal.returns-in_default
returns-in_default g c = nothing_gathered 32768 (omega arith) _ _ _ _ _ _ c.loop.invariant (subst (Ends 32768 _ _ _) c.in_default.is c.in_ok-ending.ensures)
