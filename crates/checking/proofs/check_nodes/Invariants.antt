-- `checking::check_nodes`: what is left of the tests at each row decides as all of them do.
use Rattle.rows.specs.Layouts.{rows_in}
use Rattle.checking.specs.Inner.Stages.{sizes, bound_in}
use Rattle.checking.proofs.RowTests.{Noded}
use Rattle.checking.proofs.check_nodes.Given as goal

abbrev pub invariant-loop-r : goal.invariant-loop-r
invariant-loop-r l = Noded (rows_in l.s l.sheet) (bound_in l.s l.sheet) l.s.variables (sizes l.s) l.r
