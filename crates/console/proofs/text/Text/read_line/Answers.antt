use Rattle.std.proofs.Common.{◌≡◌, length, take, subst, rules, arith}
use Rattle.std.specs.Io.BufRead.{FillKeeps}
use Rattle.std.specs.Io.KnownBytes.{Consumes}
use Rattle.std.proofs.lemmas.List.{take_all}
use Rattle.std.proofs.BufReadLemmas.{Consumes_shown}
use Rattle.console.specs.Texts.{seen}
use Rattle.console.proofs.Endings.{whole_chunk, line_found, found_within}
use Rattle.console.proofs.text.Text.read_line.Goals as goal

pub returns-in-Some : goal.returns-in-Some
returns-in-Some g c =
    let shown = c.in_ok-chunk.chunk.now in
    let kept = subst (FillKeeps _ (g.R.Read.remaining c.fill_buf.follows.lender-at-none) (g.R.BufRead.consumable_len c.fill_buf.follows.lender-at-none)) c.in_ok-chunk.was c.fill_buf.follows.holds-at-none in
    line_found _ _ _ _ _ _ _ _ c.loop.invariant shown c.in-Some.n c.in-Some.ensures
    (Consumes_shown _ _ _ _ shown c.in-Some.n (found_within g.row.N shown (seen c.loop.self) (seen c.take.new.self) c.in-Some.n c.in-Some.ensures) c.in_ok-chunk.ensures.front c.in_ok-chunk.ensures.end kept.0 kept.1 c.consume.ensures.bytes).0

pub loop-preserved : goal.loop-preserved
loop-preserved g c =
    let shown = c.in_ok-chunk.chunk.now in
    let kept = subst (FillKeeps _ (g.R.Read.remaining c.fill_buf.follows.lender-at-none) (g.R.BufRead.consumable_len c.fill_buf.follows.lender-at-none)) c.in_ok-chunk.was c.fill_buf.follows.holds-at-none in
    let all : take (length shown) shown ≡ shown = take_all (length shown) shown (omega arith) in
    whole_chunk _ _ _ _ _ _ _ _ c.loop.invariant shown (search rules) c.in_default.ensures
    (subst (Consumes _ _) all (Consumes_shown _ _ _ _ shown (length shown) (omega arith) c.in_ok-chunk.ensures.front c.in_ok-chunk.ensures.end kept.0 kept.1 c.consume-in-loop.ensures.bytes).0)
