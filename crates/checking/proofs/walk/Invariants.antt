-- `checking::walk`: what is left to pay at each row is what was to pay at the first.
use Rattle.rows.specs.Layouts.{rows_in}
use Rattle.checking.proofs.Debt.{Walking}
use Rattle.checking.proofs.walk.Given as goal

abbrev pub invariant-loop-row : goal.invariant-loop-row
invariant-loop-row l = Walking (rows_in l.s l.sheet) l.from l.owed l.row
