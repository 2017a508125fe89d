use Rattle.std.proofs.Common.{◌≡◌, ℕ, suc, cond, ltb, length, Some, None, sym, refl, ap, ◌∙◌, subst, arith}
use Rattle.terms.specs.Signature.{Sig, op_of}
use Rattle.signature.specs.Declaring.{sig_of}
use Rattle.sheet_reading.specs.Values.{range_in}
use Rattle.weighing.specs.Weighing.{PutsBase, PutsFactor}
use Rattle.sheet_reader.proofs.Progress.{gave_up}
use Rattle.sheet_reader.proofs.Lines.{awaits, value_done}
use Rattle.sheet_reader.proofs.values.read_value.Goals as goal

-- the range of a factor
factor_range : (sig : Sig) (n f g arity : ℕ) → f ≡ g → arity ≡ (op_of sig g).arity → range_in (suc n) (op_of sig f).arity ≡ cond (ltb n arity) (Some (1, 4)) None
factor_range sig n f g arity at is = ap (λ k. range_in (suc n) (op_of sig k).arity) at ∙ ap (range_in (suc n)) (sym is)

pub returns-in_err-base-in-None : goal.returns-in_err-base-in-None
returns-in_err-base-in-None c b from grid vs at h comes =
    let first : c.args.line ≡ 0 = omega (arith, c.in-None.ensures) in
    gave_up b _ _ (c.in_err-base-in-None.ensures.value b (sig_of c.args.signature.now) grid vs (awaits h refl comes c.requires.line first refl)) c.from_residual.ensures.1

pub returns-in_ok-base-in-None : goal.returns-in_ok-base-in-None
returns-in_ok-base-in-None c b from grid vs at h comes =
    let first : c.args.line ≡ 0 = omega (arith, c.in-None.ensures) in
    let base = c.in_ok-base-in-None.base in
    let read = c.in_ok-base-in-None.ensures.value b (sig_of c.args.signature.now) grid vs (awaits h refl comes c.requires.line first refl) in
    let put = subst (PutsBase c.args.weighing.now c.args.operator base c.set_base.new.self) c.unwrap.ensures c.set_base.ensures in
    (Some base, value_done h (Some base) c.set_base.new.self read first at put.0)

pub returns-in_err-factor-in-Some : goal.returns-in_err-factor-in-Some
returns-in_err-factor-in-Some c b from grid vs at h comes =
    let sig = sig_of c.args.signature.now in
    let its : c.args.line ≡ suc c.in-Some.argument = omega (arith, c.in-Some.ensures) in
    let range = factor_range sig c.in-Some.argument (length vs) c.args.operator c.arity.result at c.arity.ensures.value in
    gave_up b _ _ (c.in_err-factor-in-Some.ensures.value b sig grid vs (awaits h refl comes c.requires.line its range)) c.from_residual-in_err-factor-in-Some.ensures.1

pub returns-in_ok-factor-in-Some : goal.returns-in_ok-factor-in-Some
returns-in_ok-factor-in-Some c b from grid vs at h comes =
    let sig = sig_of c.args.signature.now in
    let its : c.args.line ≡ suc c.in-Some.argument = omega (arith, c.in-Some.ensures) in
    let range = factor_range sig c.in-Some.argument (length vs) c.args.operator c.arity.result at c.arity.ensures.value in
    let factor = c.in_ok-factor-in-Some.factor in
    let read = c.in_ok-factor-in-Some.ensures.value b sig grid vs (awaits h refl comes c.requires.line its range) in
    let put = subst (PutsFactor c.args.weighing.now c.args.operator c.in-Some.argument factor c.set_factor.new.self) c.unwrap-in-Some.ensures c.set_factor.ensures in
    (factor, value_done h factor c.set_factor.new.self read its at put.0)
