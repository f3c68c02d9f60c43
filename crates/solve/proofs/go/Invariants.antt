-- The loop of `solve::go`: the run from the start is the run from where it stands, with one variable less each turn.
use Rattle.std.proofs.Common.{◌≡◌, length}
use Rattle.solve.proofs.Turning.{Turn}
use Rattle.solve.proofs.go.Given as goal

abbrev pub invariant-loop-verdict : goal.invariant-loop-verdict
invariant-loop-verdict l =
    Turn l.fn.room l.fn.start l.s l.fn.first l.first × (length l.second ≡ length l.fn.second) × (length l.ends ≡ 8192)

abbrev pub decreases-loop-verdict : goal.decreases-loop-verdict
decreases-loop-verdict l = l.s.sheet.variables
