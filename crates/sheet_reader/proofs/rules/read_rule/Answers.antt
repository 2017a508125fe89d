use Rattle.std.proofs.Common.{[], ◌∷◌, ◌++◌, sym, ap, ◌∙◌, subst}
use Rattle.terms.specs.Rule.{RuleOf}
use Rattle.signature.specs.Declaring.{sig_of}
use Rattle.sheet.specs.Sheet.{rules_of}
use Rattle.sheet.specs.Rules.{rule_between}
use Rattle.sheet_reader.specs.Progress.{Reached, Meets}
use Rattle.sheet_reader.specs.Rules.{next_rule}
use Rattle.sheet_reader.proofs.Progress.{good, gave_up}
use Rattle.sheet_reader.proofs.Storing.{is_rule, few_before, left_laid, right_laid, stored}
use Rattle.sheet_reader.proofs.rules.read_rule.Goals as goal

pub returns-in_err-sides-clause-goes : goal.returns-in_err-sides-clause-goes
returns-in_err-sides-clause-goes c b grid m =
    let n = subst (λ s. Meets b (next_rule s grid (rules_of c.args.sheet.now)) c.args.lexeme c.args.lexer.now) (sym c.signature.ensures) m in
    gave_up b c.from_residual.result _ (c.in_err-sides.ensures b grid (rules_of c.args.sheet.now) (sym c.len.ensures.value) n) c.from_residual.ensures.1

pub new-requires : goal.new-requires
new-requires c =
    let (b, grid, m) = c.requires in
    let n = subst (λ s. Meets b (next_rule s grid (rules_of c.args.sheet.now)) c.args.lexeme c.args.lexer.now) (sym c.signature.ensures) m in
    let z = c.in_ok-sides.ensures b grid (rules_of c.args.sheet.now) (sym c.len.ensures.value) n in
    left_laid (sig_of c.signature.result.now) grid (rules_of c.args.sheet.now) z.rule (good b _ _ z.goes_on) c.in_ok-sides.sides.left z.left_laid

pub new-requires-2 : goal.new-requires-2
new-requires-2 c =
    let (b, grid, m) = c.requires in
    let n = subst (λ s. Meets b (next_rule s grid (rules_of c.args.sheet.now)) c.args.lexeme c.args.lexer.now) (sym c.signature.ensures) m in
    let z = c.in_ok-sides.ensures b grid (rules_of c.args.sheet.now) (sym c.len.ensures.value) n in
    right_laid (sig_of c.signature.result.now) grid (rules_of c.args.sheet.now) z.rule (good b _ _ z.goes_on) c.in_ok-sides.sides.right z.right_laid

pub add-requires-clause-lawful : goal.add-requires-clause-lawful
add-requires-clause-lawful c =
    let (b, grid, m) = c.requires in
    let n = subst (λ s. Meets b (next_rule s grid (rules_of c.args.sheet.now)) c.args.lexeme c.args.lexer.now) (sym c.signature.ensures) m in
    let z = c.in_ok-sides.ensures b grid (rules_of c.args.sheet.now) (sym c.len.ensures.value) n in
    let g = good b _ _ z.goes_on in
    subst (λ s. RuleOf s (rule_between c.new.result c.new-2.result)) c.signature.ensures
    (subst (RuleOf (sig_of c.signature.result.now)) (sym (stored (sig_of c.signature.result.now) grid (rules_of c.args.sheet.now) z.rule g c.in_ok-sides.sides.left c.in_ok-sides.sides.right c.new.result c.new-2.result z.left_laid z.right_laid c.new.ensures c.new-2.ensures))
    (is_rule (sig_of c.signature.result.now) grid (rules_of c.args.sheet.now) z.rule g))

pub add-requires-clause-room : goal.add-requires-clause-room
add-requires-clause-room c =
    let (b, grid, m) = c.requires in
    let n = subst (λ s. Meets b (next_rule s grid (rules_of c.args.sheet.now)) c.args.lexeme c.args.lexer.now) (sym c.signature.ensures) m in
    let z = c.in_ok-sides.ensures b grid (rules_of c.args.sheet.now) (sym c.len.ensures.value) n in
    few_before (sig_of c.signature.result.now) grid (rules_of c.args.sheet.now) z.rule (good b _ _ z.goes_on)

pub returns-clause-goes : goal.returns-clause-goes
returns-clause-goes c b grid m =
    let sig = sig_of c.signature.result.now in
    let rules = rules_of c.args.sheet.now in
    let n = subst (λ s. Meets b (next_rule s grid rules) c.args.lexeme c.args.lexer.now) (sym c.signature.ensures) m in
    let z = c.in_ok-sides.ensures b grid rules (sym c.len.ensures.value) n in
    let q = stored sig grid rules z.rule (good b _ _ z.goes_on) c.in_ok-sides.sides.left c.in_ok-sides.sides.right c.new.result c.new-2.result z.left_laid z.right_laid c.new.ensures c.new-2.ensures in
    subst (λ s. Reached b (next_rule s grid (rules_of c.add.new.self)) c.read_sides.new.lexer) (c.signature.ensures ∙ sym c.add.ensures.operators)
    (subst (λ rs. Reached b (next_rule sig grid rs) c.read_sides.new.lexer) (ap (λ r. rules ++ r ∷ []) (sym q) ∙ sym c.add.ensures.rules) z.goes_on)
