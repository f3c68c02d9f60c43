-- `certify::initial::first_unsettled`: the initial steps passed settle the matrix.
use Rattle.std.proofs.Common.{◌-◌}
use Rattle.rows.specs.Formulas.{matrix_in}
use Rattle.certify.proofs.Settling.{Settled}
use Rattle.certify.proofs.initial.first_unsettled.Given as goal

abbrev pub invariant-loop-k : goal.invariant-loop-k
invariant-loop-k l = Settled l.q.verdict (matrix_in l.q.layout l.sheet) l.heads l.codes l.end l.k

abbrev pub decreases-loop-k : goal.decreases-loop-k
decreases-loop-k l = l.end - l.k
