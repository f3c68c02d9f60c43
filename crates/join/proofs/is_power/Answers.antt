-- The goals of `join::is_power`. Assumes nothing.
use Rattle.std.proofs.Common.{arith, sym, ◌∙◌}
use Rattle.join.proofs.Joining.{power_odd, power_half}
use Rattle.join.proofs.is_power.Goals as goal

pub returns-then-left-eq1 : goal.returns-then-left-eq1
returns-then-left-eq1 c = sym (power_odd c.loop.left _ (omega (arith, c.loop-test.true)) c.if-left-eq1.true) ∙ c.loop.invariant

pub loop-preserved : goal.loop-preserved
loop-preserved c = power_half c.loop.left (omega (arith, c.loop-test.true)) c.if-left-eq1.false ∙ c.loop.invariant
