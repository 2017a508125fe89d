use Rattle.std.proofs.Common.{rules, reverse, ap, ◌∙◌, arith}
use Rattle.fixed_vec.specs.FixedVec.{content}
use Rattle.fixed_vec.proofs.FixedVecs.{first_put}
use Rattle.traversal.proofs.Layings.{laying_start, laying_again, laying_layable, laying_end, laid}
use Rattle.traversal.proofs.write.lay_text.Goals as goal

pub loop-k-init : goal.loop-k-init
loop-k-init g c =
    laying_start _ _ c.args.place c.args.n _ _ (first_put c.push.result 16384 (content c.new-stack.result) _ _ (omega arith) (ap reverse c.new-stack.ensures) c.push.ensures.top) c.new-writer.ensures.none

pub lay_symbol-requires : goal.lay_symbol-requires
lay_symbol-requires g c =
    laying_layable _ _ c.args.place c.args.n c.loop-k._k c.in-Some.item _ _ _ _ c.requires (omega arith) c.in-Some.ensures.top c.loop-k.invariant

pub loop-k-preserved : goal.loop-k-preserved
loop-k-preserved g c =
    laying_again _ _ c.args.place c.args.n c.loop-k._k c.in-Some.item _ _ _ _ _ _ c.in-Some.ensures.top c.loop-k.invariant c.lay_symbol.ensures

pub returns : goal.returns
returns g c = λ t h.
    let end = laying_end _ _ c.args.place c.args.n c.loop-k._k _ _ _ (omega arith) c.loop-k.invariant t h in
    let name = c.loop-k.invariant.puts.same_buffer ∙ c.new-writer.ensures.same_buffer in
    laid end c.new-writer.ensures.bytes c.new-writer.ensures.none (search rules) c.len.ensures
