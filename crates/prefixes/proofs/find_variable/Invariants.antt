-- `prefixes::find_variable`: no row passed is that of x.
use Rattle.prefixes.proofs.Walks.{Finding}
use Rattle.prefixes.proofs.find_variable.Given as goal

abbrev pub invariant-loop-i : goal.invariant-loop-i
invariant-loop-i l = Finding l.s l.b l.x l.i
