-- `tidiness::first_fault`: no row passed is at fault.
use Rattle.tidiness.proofs.Faults.{Passing}
use Rattle.tidiness.proofs.first_fault.Given as goal

abbrev pub invariant-loop-i : goal.invariant-loop-i
invariant-loop-i l = Passing l.s l.b l.heads l.links l.members l.i
