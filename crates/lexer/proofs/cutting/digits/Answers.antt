use Rattle.std.proofs.Common.{rules, tests, length-drop}
use Rattle.std.proofs.lemmas.List.Sorted.{answers_always}
use Rattle.terms.specs.Signature.{digit}
use Rattle.lexer.proofs.cutting.digits.Goals as goal

pub returns : goal.returns
returns c = rw (length-drop 1 c.args.text.now) (c.run.ensures digit (answers_always _ _ _ (λ f a r f' k. search (rules, tests))))
