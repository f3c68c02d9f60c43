-- The loop of `strategy::walk::walk`: the turns up to here are taken, and the pairs of their steps drafted. Assumes nothing.
use Rattle.std.proofs.Common.{◌≡◌, length}
use Rattle.formula.specs.Strategy.{winner}
use Rattle.sheet.specs.Trace.{room}
use Rattle.strategy.proofs.Walking.{Walking}
use Rattle.strategy.proofs.walk.walk.Given as goal

abbrev pub invariant-loop-first : goal.invariant-loop-first
invariant-loop-first l =
    Walking (room l.fn.first l.fn.second) (winner l.fn.d.exists) l.fn.d.to.layout l.fn.start l.s l.fn.first l.first l.fn.out l.out l.fn.d.to.at l.at ×
    (length l.second ≡ length l.fn.second) × (length l.out ≡ length l.fn.out) × (length l.ends ≡ 8192)

abbrev pub decreases-loop-first : goal.decreases-loop-first
decreases-loop-first l = l.s.sheet.variables
