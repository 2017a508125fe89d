-- Each token that is accepted is one more of the tokens read, and one that is refused has its cause.
use Rattle.std.proofs.Common.{◌≡◌, List, [], ◌∷◌, ◌++◌, Some, None, Ok, Err, refl, ap, ◌∙◌, subst, append-nil, arith}
use Rattle.std.specs.List.{AllByRecursion}
use Rattle.terms.specs.Signature.{Sig}
use Rattle.reading.specs.declared.token.At.{At}
use Rattle.reading.specs.declared.heading.Stage.TheVariants.{WantsName, HasName, WantsCount, HasCount, Done}
use Rattle.reading.specs.Tokens.{Tok, past, origin}
use Rattle.reading.specs.Reading.{top, within, wants, opens, has, chain}
use Rattle.reading.specs.Heading.{Head, Outcome, head_step}
use Rattle.reading.specs.Laws.{Wrong}
use Rattle.reading.proofs.Equal.{not_both, same_fault}
use Rattle.reading.proofs.Lines.{heading_tokens}
use Rattle.reading.proofs.Running.{passed, all_along, Refuses}
use Rattle.reading.specs.declared.fault.SheetFault.{SheetFault}
use Rattle.sheet_reading.specs.Sheet.{limits}
use Rattle.sheet_reading.specs.Sides.{on_left, on_right}
use Rattle.sheet_reading.specs.Reading.{Stand, in_heading, wants_value, has_value, has_word, in_rule, headed, sheet_step, rule_end, sheet_end}
use Rattle.sheet_reading.specs.Laws.{Behind}
use Rattle.reading.proofs.Tokens.{Lexed}
use Rattle.sheet_reading.proofs.Stands.{reach, before_side, stand_tokens, behind_past, start}
use Rattle.sheet_reading.proofs.Causes.{Cause}
use Rattle.sheet_reading.proofs.SideTelling.{miscounted_opens}
use Rattle.reading.proofs.Heads.{head_tokens, HeadGood, HeadSaid, said_head, none}
use Rattle.sheet_reading.proofs.Headings.{head_cause}
use Rattle.sheet_reading.proofs.Goods.{Ruled, Good, Said}
use Rattle.sheet_reading.proofs.Valuing.{said_line, said_behind_value, said_behind_word}
use Rattle.sheet_reading.proofs.Ruling.{miscounted, said_rule}
use Rattle.std.proofs.lemmas.Option.{none-some}

good_headed : (g : Head) → HeadGood 32 g → Good (headed g)
good_headed (sig, WantsName) h = h
good_headed (sig, HasName) h = h
good_headed (sig, WantsCount f) h = h
good_headed (sig, HasCount f) h = h
good_headed (sig, Done) h = (record { operators = h.0; some = h.1; in_range = tt; so_far = tt; at_most = omega arith; not_last = λ q. absurd (omega arith) }, h.1)

headed_tokens : (g : Head) → stand_tokens (headed g) ≡ head_tokens g
headed_tokens (sig, WantsName) = refl
headed_tokens (sig, HasName) = refl
headed_tokens (sig, WantsCount f) = refl
headed_tokens (sig, HasCount f) = refl
headed_tokens (sig, Done) = append-nil _ ∙ append-nil (heading_tokens sig)

said_heading : (h : Head) (at : At) (k : Tok) (r : Outcome) → HeadGood 32 h → Behind (head_tokens h) at → HeadSaid 32 h k at r → Said (in_heading h) k (chain r (λ g. Ok (headed g)))
said_heading h at k (Ok g) i p z = (good_headed g z.0, headed_tokens g ∙ z.1)
said_heading h at k (Err f) i p z = head_cause at h k f z i p

pub said : (s : Stand) (at : At) (k : Tok) → Lexed k → Good s → Behind (stand_tokens s) at → Said s k (sheet_step limits s at k)
said (in_heading h) at k l g p = said_heading h at k (head_step 32 h at k) g p (said_head 32 h at k l g)
said (wants_value sig grid vs) at k l g p = said_line sig grid at k vs l g p
said (has_value sig grid vs) at k l g p = said_behind_value sig grid at k vs g p
said (has_word sig grid) at k l g p = said_behind_word sig grid at k g p
said (in_rule sig grid rules d s) at k l g p = said_rule sig grid rules at k d s l g p

-- all tokens

-- a stand that is reached behind some tokens
pub record Told (s : Stand) (ks : List Tok) (at : At) : Type 0 where
  pub is_good : Good s
  pub so_far : stand_tokens s ≡ ks
  pub place : Behind (stand_tokens s) at

told_next : (s : Stand) (ks : List Tok) (at : At) (k : Tok) (u : Stand) → Lexed k → Told s ks at → sheet_step limits s at k ≡ Ok u → Told u (ks ++ (k ∷ [])) (past at k)
told_next s ks at k u l z e =
    let (a, b) = subst (Said s k) e (said s at k l z.is_good z.place) in
    record { is_good = a; so_far = b ∙ ap (λ js. js ++ (k ∷ [])) z.so_far; place = behind_past (stand_tokens s) at k (stand_tokens u) z.place b }

-- from any good stand at its place
pub tells_from : (s : Stand) (at : At) (ks : List Tok) (u : Stand) → AllByRecursion Lexed ks → Good s → Behind (stand_tokens s) at → reach limits s at ks ≡ Ok u → Told u (stand_tokens s ++ ks) (passed at ks)
tells_from s at ks u l g p e = all_along (sheet_step limits) Lexed Told told_next ks s (stand_tokens s) at u l (record { is_good = g; so_far = refl; place = p }) e

pub tells : (ks : List Tok) (u : Stand) → AllByRecursion Lexed ks → reach limits start origin ks ≡ Ok u → Told u ks (passed origin ks)
tells ks u l e = tells_from start origin ks u l (none 32) refl e

-- the cause of a refusal

rule_ended : (sig : Sig) (grid : _) (rules : _) (d : _) (s : _) (at : At) (f : SheetFault) → Ruled sig grid rules d s → Behind (stand_tokens (in_rule sig grid rules d s)) at → rule_end sig grid rules d s at ≡ Err f → Cause (stand_tokens (in_rule sig grid rules d s)) None f
rule_ended sig grid rules on_left (wants top) at f g p e = not_both e
rule_ended sig grid rules on_left (wants (within h a ts n k)) at f g p e = subst (Cause _ None) (same_fault e) p
rule_ended sig grid rules (on_right l) (wants k) at f g p e = subst (Cause _ None) (same_fault e) p
rule_ended sig grid rules d (opens h a n k) at f g p e =
    subst (Cause _ None) (same_fault e) (miscounted sig grid rules d (opens h a n k) g None a (miscounted_opens g.shaped.declared (before_side sig grid rules d) h a n k None g.side.begun.shaped.0 (none-some _)))
rule_ended sig grid rules d (has t b k) at f g p e = subst (Cause _ None) (same_fault e) p

pub ended : (s : Stand) (at : At) (f : SheetFault) → Good s → Behind (stand_tokens s) at → sheet_end s at ≡ Err f → Cause (stand_tokens s) None f
ended (in_heading h) at f g p e = subst (Cause _ None) (same_fault e) p
ended (wants_value sig grid vs) at f g p e = subst (Cause _ None) (same_fault e) p
ended (has_value sig grid vs) at f g p e = subst (Cause _ None) (same_fault e) p
ended (has_word sig grid) at f g p e = subst (Cause _ None) (same_fault e) p
ended (in_rule sig grid rules d s) at f g p e = rule_ended sig grid rules d s at f g p e

pub cause : (s : Stand) (at : At) (w : Wrong) (f : SheetFault) → Good s → Behind (stand_tokens s) at → Refuses (sheet_step limits) sheet_end s at w f → ((k : Tok) → w ≡ Some k → Lexed k) → Cause (stand_tokens s) w f
cause s at None f g p e x = ended s at f g p e
cause s at (Some k) f g p e x = subst (Said s k) e (said s at k (x k refl) g p)
