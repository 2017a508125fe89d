use Rattle.std.proofs.Common.{None, false, reverse, refl, ap, sym, ◌∙◌, subst, arith}
use Rattle.std.proofs.lemmas.Bool.{false≢true}
use Rattle.matching.specs.Fitting.{Begins}
use Rattle.matching.proofs.Matches.{match_starts, begins_not, match_step, match_fails, match_misses, match_ends, next_check, no_check, checks_same}
use Rattle.matching.proofs.places.matches.Goals as goal

pub returns-then-not-begins : goal.returns-then-not-begins
returns-then-not-begins c r ks ts p h e a =
    let same = p.checks ∙ checks_same r.left in
    begins_not _ _ ks ts _ (λ b. false≢true (c.if-not-begins.ensures.1 (subst (λ l. Begins c.args.store.now.nodes.now l c.args.first) (sym same) b))) h e a

pub loop-check-init : goal.loop-check-init
loop-check-init c r ks ts p h e a =
    let same = p.checks ∙ checks_same r.left in
    match_starts _ _ ks ts _ _ _ _ (subst (λ l. Begins c.args.store.now.nodes.now l c.args.first) same (c.if-not-begins.ensures.0 refl)) h e a (c.deref-check-items.ensures.0 ∙ same) (c.deref-check-items.ensures.1) c.clear.ensures (ap reverse c.new-later.ensures)

pub returns-in_default : goal.returns-in_default
returns-in_default c r ks ts p h e a =
    absurd (match_misses _ _ ks ts _ _ _ _ _ c.in_default.is (next_check _ _ ks ts _ _ c.loop-check.check-index (record { symbol = None; has_first = false; has_next = false }) _ _ (omega arith) (c.loop-check.invariant r ks ts p h e a)))

pub returns-then-not-fits : goal.returns-then-not-fits
returns-then-not-fits c r ks ts p h e a =
    match_fails _ _ ks ts _ _ c.in-Some.place _ _ _ _ (next_check _ _ ks ts _ _ c.loop-check.check-index _ _ _ (omega arith) (c.loop-check.invariant r ks ts p h e a)) c.in-Some.is c.node-node.ensures (λ f. false≢true (c.if-not-fits.ensures.1 f))

pub loop-check-preserved : goal.loop-check-preserved
loop-check-preserved c r ks ts p h e a =
    match_step _ _ ks ts _ _ c.in-Some.place _ _ _ _ (next_check _ _ ks ts _ _ c.loop-check.check-index _ _ _ (omega arith) (c.loop-check.invariant r ks ts p h e a)) c.in-Some.is c.node-node.ensures
    32 _ _ _ _ c.push.result (omega arith) (c.if-not-fits.ensures.0 refl) c.below.ensures c.push.ensures.last c.push.ensures.full c.onward-current.ensures

pub returns : goal.returns
returns c r ks ts p h e a = match_ends _ _ ks ts _ _ _ (no_check _ _ ks ts _ _ c.loop-check.check-index _ _ (omega arith) (c.loop-check.invariant r ks ts p h e a))
