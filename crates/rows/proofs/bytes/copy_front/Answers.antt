-- `rows::bytes::copy_front` meets its contract.
use Rattle.std.proofs.Common.{refl, sym, ap₂, ◌∙◌, ◌++◌, length, drop, arith}
use native.Mathlib.Nat.{zero-add}
use lib.Seq.{take_all}
use Rattle.rows.proofs.Pasting.{pasted_none, pasted_one, pasted_all}
use Rattle.rows.proofs.bytes.copy_front.Goals as goal

pub loop-i-init : goal.loop-i-init
loop-i-init c = pasted_none _ _ _ _ (omega arith) (omega (arith, c.requires))

pub loop-i-preserved : goal.loop-i-preserved
loop-i-preserved c =
    pasted_one _ _ _ _ (omega arith) (omega (arith, c.requires)) c.loop-i-test.true c.loop-i.invariant (sym (zero-add _)) refl

pub returns : goal.returns
returns c =
    let s = c.args.sheet.now in
    pasted_all _ _ _ _ (omega arith) (omega (arith, c.requires)) c.loop-i-test.false c.loop-i.invariant ∙
    ap₂ (λ p k. p ++ drop k c.args.out.now) (take_all (length s) s (omega arith)) (zero-add (length s))
