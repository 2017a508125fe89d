use Rattle.std.proofs.Common.{◌≡◌, suc, false, ◌∷◌, [], subst, refl, ap, ◌∙◌}
use Rattle.terms.specs.Term.{Term, variable, instrument, apply}
use Rattle.terms.specs.Rule.{OperatorFirst}
use Rattle.sheet.specs.Rules.{rule_of}
use Rattle.compiled.specs.Symbols.{has_arguments, parts_under, plain}
use Rattle.compiled.specs.Plans.{source_of, copied_in}
use Rattle.compiling.specs.declared.outline.Part.{Part}
use Rattle.compiling.specs.declared.outline.Outline.{Outline}
use Rattle.compiling.specs.Outlines.{Outlines, OutlinesRule, piece_for}
use Rattle.compiling.proofs.Pieces.{source_front}
use Rattle.compiling.proofs.Sides.{few_arguments}
use Rattle.compiling.proofs.planning.plan_of.Goals as goal

plain_operator : (t : Term) → OperatorFirst t → plain (t ∷ parts_under t) ≡ suc (plain (parts_under t))
plain_operator (variable x) h = absurd h
plain_operator (instrument n) h = absurd h
plain_operator (apply f ts) h = refl

root_piece : (t u : Term) (o : Outline) → Outlines u o → piece_for (parts_under t) [] o.root ≡ record { source = source_of (parts_under t) [] u; has_first = has_arguments u; has_next = false }
root_piece t u o of = ap (piece_for (parts_under t) []) of.root ∙ ap (λ s. record { source = s; has_first = has_arguments u; has_next = false }) (source_front (parts_under t) [] u)

pub dropped-requires : goal.dropped-requires
dropped-requires c =
    let left_is = subst (λ t. Outlines t c.of-left.result) c.left.ensures c.of-left.ensures in
    let right_is = subst (λ t. Outlines t c.of-right.result) c.right.ensures c.of-right.ensures in
    (rule_of c.args.rule.now, record { left_is = left_is; right_is = right_is }, c.requires.linear)

pub returns : goal.returns
returns c =
    let r = rule_of c.args.rule.now in
    let left_is = subst (λ t. Outlines t c.of-left.result) c.left.ensures c.of-left.ensures in
    let right_is = subst (λ t. Outlines t c.of-right.result) c.right.ensures c.of-right.ensures in
    let of : OutlinesRule r c.of-left.result c.of-right.result = record { left_is = left_is; right_is = right_is } in
    record {
      has_first = ap (λ (p : Part). p.has_first) left_is.root;
      checks = c.checks_of.ensures r.left left_is;
      root = c.piece_of.ensures r of ∙ root_piece r.left r.right c.of-right.result right_is;
      pieces = c.pieces_of-pieces.ensures r of;
      visits = right_is.operators;
      dropped = c.dropped.ensures r of;
      copied = c.copied.ensures ∙ ap copied_in c.as_slice.ensures.value;
      before = c.plain.ensures r.left left_is ∙ plain_operator r.left c.requires.operator_first;
      after = c.plain-2.ensures r.right right_is;
      narrow = few_arguments c.args.rule.now.right;
    }
