-- `checking::check_prefix`: what is left of the tests at each row decides as all of them do.
use Rattle.rows.specs.Layouts.{format_in, rows_in}
use Rattle.checking.specs.Inner.Stages.{sizes}
use Rattle.checking.proofs.RowTests.{Prefixed}
use Rattle.checking.proofs.check_prefix.Given as goal

abbrev pub invariant-loop-r : goal.invariant-loop-r
invariant-loop-r l = Prefixed (format_in l.s) (rows_in l.s l.sheet) l.s.variables (sizes l.s) l.bound l.r
