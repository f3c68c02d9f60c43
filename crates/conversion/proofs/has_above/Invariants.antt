-- `conversion::has_above`: no number before row r is above.
use Rattle.conversion.proofs.RowTurns.{Looked}
use Rattle.conversion.proofs.has_above.Given as goal

abbrev pub invariant-loop-r : goal.invariant-loop-r
invariant-loop-r l = Looked l.most l.s l.sheet l.r
