use Rattle.std.proofs.Common.{◌≡◌, ◌≢◌, ℕ, length, rules, reverse, ap, arith}
use Rattle.std.proofs.lemmas.List.{length-reverse}
use Rattle.fixed_vec.specs.FixedVec.{content}
use Rattle.traversal.proofs.Matches.{at_roots, some_left, one_more_same, other_symbols, other_arities, no_others}
use Rattle.traversal.proofs.compare.same_of_size.Goals as goal

pub loop-k-init : goal.loop-k-init
loop-k-init g c =
    at_roots _ _ c.args.place c.args.other c.args.n _ _ (cc (c.in-Ok-Ok.ensures.top, ap reverse c.new-places.ensures))
    (cc (c.in-Ok-Ok.ensures'.top, ap reverse c.new-others.ensures))

pub next_symbol-requires : goal.next_symbol-requires
next_symbol-requires g c = (some_left c.requires.first c.requires.second (omega arith) c.loop-k.invariant).0

pub next_symbol-requires-in-loop-k : goal.next_symbol-requires-in-loop-k
next_symbol-requires-in-loop-k g c = (some_left c.requires.first c.requires.second (omega arith) c.loop-k.invariant).1

pub returns-then-ne : goal.returns-then-ne
returns-then-ne g c =
    let differ : c.next_symbol.result ≢ c.next_symbol-in-loop-k.result = λ e. search rules in
    other_symbols c.next_symbol.ensures c.next_symbol-in-loop-k.ensures differ c.loop-k.invariant

pub returns-then-len : goal.returns-then-len
returns-then-len g c =
    let differ : length (content c.next_symbol.new.stack) ≢ length (content c.next_symbol-in-loop-k.new.stack) = omega (arith, length-reverse {A = ℕ}) in
    other_arities c.next_symbol.ensures c.next_symbol-in-loop-k.ensures differ c.loop-k.invariant

pub loop-k-preserved : goal.loop-k-preserved
loop-k-preserved g c =
    let same : c.next_symbol.result ≡ c.next_symbol-in-loop-k.result = search rules in
    let even : length (content c.next_symbol.new.stack) ≡ length (content c.next_symbol-in-loop-k.new.stack) = omega (arith, length-reverse {A = ℕ}) in
    one_more_same c.next_symbol.ensures c.next_symbol-in-loop-k.ensures same even c.loop-k.invariant

pub returns : goal.returns
returns g c = no_others (omega arith) c.loop-k.invariant
