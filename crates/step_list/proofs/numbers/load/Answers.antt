-- The goals of `step_list::numbers::load`. Assumes nothing.
use Rattle.std.proofs.Common.{refl, arith}
use native.Mathlib.Numerals.{add-one}
use Rattle.step_list.proofs.Parts.{loaded_none, loaded_next}
use Rattle.step_list.proofs.numbers.load.Goals as goal

pub loop-j-init : goal.loop-j-init
loop-j-init c = loaded_none c.args.operations.now c.args.variables.now c.args.at

pub loop-j-preserved : goal.loop-j-preserved
loop-j-preserved c =
    let a = c.args in
    loaded_next a.operations.now a.variables.now a.at c.loop-j.invariant (omega (arith, c.loop-j-test.true, c.requires.is_part)) (add-one c.loop-j.j) _
    c.operation_for.ensures refl
