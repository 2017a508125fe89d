use Rattle.std.proofs.Common.{rules, tests}
use Rattle.std.proofs.lemmas.List.Sorted.{answers_always}
use Rattle.terms.specs.Signature.{word}
use Rattle.lexer.proofs.cutting.words.Goals as goal

pub returns : goal.returns
returns c = c.run.ensures word (answers_always _ _ _ (λ f a r f' k. search (rules, tests)))
