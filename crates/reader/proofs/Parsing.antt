-- The parser from one state to the next.
use Rattle.std.proofs.Common.{◌≡◌, ℕ, zero, suc, ◌<◌, ◌≤◌, List, [], ◌∷◌, length, None, Ok, Option, sym, refl, ap, ◌∙◌, arith, length-append}
use Rattle.terms.specs.declared.layout.Layout.{Layout}
use Rattle.terms.specs.Term.{Term, apply}
use Rattle.terms.specs.Nodes.{with_next}
use Rattle.terms.specs.Layout.{in_use, LaysOut}
use Rattle.reading.specs.declared.token.At.{At}
use Rattle.reader.specs.declared.parser.Frame.{Frame}
use Rattle.fixed_vec.specs.declared.FixedVec.{FixedVec}
use Rattle.reader.specs.declared.parser.Whole.{Whole}
use Rattle.reader.specs.declared.parser.Phase.TheVariants.{Wants, Has}
use Rattle.reader.specs.declared.parser.Parser.{Parser}
use Rattle.fixed_vec.specs.FixedVec.{content}
use Rattle.reading.specs.Reading.{Context, top, within, State, wants, opens, has, and_then, closed, continued, ending}
use Rattle.reader.specs.Parsing.{operator_node, stack_nodes, stack_frames, Holds, Roomy}
use Rattle.reader.proofs.Stacks.{closed_nodes, continued_nodes, fewer_frames}

never_nil : {x : Frame} {xs : List Frame} → [] ≡ x ∷ xs → ⊥
never_nil e = cc

same_top : {x y : Frame} {xs ys : List Frame} → x ∷ xs ≡ y ∷ ys → x ≡ y
same_top e = cc

same_rest : {x y : Frame} {xs ys : List Frame} → x ∷ xs ≡ y ∷ ys → xs ≡ ys
same_rest e = cc

-- ')' behind a term
pub close_holds : (p : Parser) (rest : FixedVec Frame 2048) (frame : Frame) (at : At) (t : Term) (m : Option At) (k : Context) → Holds p (has t m k) → content p.frames ≡ frame ∷ content rest → frame.left ≤ 0
    → (s : State) × (closed t k at ≡ Ok s) × Holds (record { nodes = p.nodes; frames = rest; phase = Has (record { root = frame.node; bare = None }) }) s
close_holds p rest frame at t m top h e l = absurd (never_nil (sym h.frames_are ∙ e))
close_holds p rest frame at t m (within f a ts zero k) h e l =
    let both = sym e ∙ h.frames_are in (
      has (apply f (and_then ts t)) None k,
      refl,
      record {
        nodes_are = h.nodes_are ∙ closed_nodes t f (stack_nodes k) ts;
        frames_are = same_rest both;
        phase_is = ap (λ (x : Frame). Has (record { root = x.node; bare = None })) (same_top both);
      },
    )
close_holds p rest frame at t m (within f a ts (suc n) k) h e l = absurd (omega (arith, ap (λ (x : Frame). x.left) (same_top (sym e ∙ h.frames_are))))

-- there is room for one more frame
pub room_to_open : (f : ℕ) (a : At) (n : ℕ) (k : Context) (place : ℕ) → Roomy (opens f a n k) place → length (stack_frames k) < 2048
room_to_open f a n k place r = omega (arith, r.0, r.1, fewer_frames k, length-append (stack_nodes k) (operator_node f (length (stack_nodes k)) ∷ []))

-- ',' behind a term
pub continue_holds : (p : Parser) (linkd : Layout 2048) (rest more : FixedVec Frame 2048) (frame : Frame) (at : At) (root left next : ℕ) (t : Term) (m : Option At) (k : Context)
    → Holds p (has t m k) → root ≡ length (stack_nodes k) → content p.frames ≡ frame ∷ content rest → suc left ≡ frame.left → next ≡ length (in_use p.nodes) → in_use linkd ≡ with_next (in_use p.nodes) root next
    → content more ≡ record { node = frame.node; at = frame.at; left = left } ∷ content rest
    → (s : State) × (continued t k at ≡ Ok s) × Holds (record { nodes = linkd; frames = more; phase = Wants }) s
continue_holds p linkd rest more frame at root left next t m top h e q l n b u = absurd (never_nil (sym h.frames_are ∙ q))
continue_holds p linkd rest more frame at root left next t m (within f a ts zero k) h e q l n b u = absurd (omega (arith, ap (λ (x : Frame). x.left) (same_top (sym q ∙ h.frames_are))))
continue_holds p linkd rest more frame at root left next t m (within f a ts (suc j) k) h e q l n b u =
    let both = sym q ∙ h.frames_are in
    let less : left ≡ j = omega (arith, ap (λ (x : Frame). x.left) (same_top both)) in (
      wants (within f a (and_then ts t) j k),
      refl,
      record {
        nodes_are = b ∙ (λ i. with_next (h.nodes_are i) (e i) next) ∙ continued_nodes t f (stack_nodes k) ts next (n ∙ ap length h.nodes_are);
        frames_are = u ∙ (λ i. record { node = (same_top both i).node; at = (same_top both i).at; left = less i } ∷ same_rest both i);
        phase_is = refl;
      },
    )

-- the end of the text
pub finish_holds : (p : Parser) (w : Whole) (at : At) (s : State) → Holds p s → p.phase ≡ Has w → content p.frames ≡ [] → (t : Term) × (ending s at ≡ Ok t) × LaysOut p.nodes t
finish_holds p w at (wants k) h e q = let z = sym e ∙ h.phase_is in cc
finish_holds p w at (opens f a n k) h e q = let z = sym e ∙ h.phase_is in cc
finish_holds p w at (has t m top) h e q = (t, refl, h.nodes_are)
finish_holds p w at (has t m (within f a ts n k)) h e q = absurd (never_nil (sym q ∙ h.frames_are))
