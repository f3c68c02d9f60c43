-- `rows::bytes::move_down` meets its contract.
use Rattle.std.proofs.Common.{refl, length-drop, arith}
use Rattle.rows.proofs.Pasting.{pasted_none, pasted_one, pasted_all, ahead}
use Rattle.rows.proofs.bytes.move_down.Goals as goal

pub loop-i-init : goal.loop-i-init
loop-i-init c =
    let a = c.args in
    pasted_none _ _ _ _ (omega (arith, length-drop a.from a.b.now, c.requires.1)) (omega (arith, c.requires.0, c.requires.1))

pub loop-i-preserved : goal.loop-i-preserved
loop-i-preserved c =
    let a = c.args in
    pasted_one _ _ _ _ (omega (arith, length-drop a.from a.b.now, c.requires.1)) (omega (arith, c.requires.0, c.requires.1)) c.loop-i-test.true
    c.loop-i.invariant refl (ahead _ _ _ _ c.requires.0 c.requires.1 c.loop-i-test.true c.loop-i.invariant)

pub returns : goal.returns
returns c =
    let a = c.args in
    pasted_all _ _ _ _ (omega (arith, length-drop a.from a.b.now, c.requires.1)) (omega (arith, c.requires.0, c.requires.1)) c.loop-i-test.false
    c.loop-i.invariant
