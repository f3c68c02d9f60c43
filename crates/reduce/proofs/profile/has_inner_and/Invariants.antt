-- `reduce::profile::has_inner_and`: no row passed is AND.
use Rattle.reduce.proofs.InnerAnd.{Looking}
use Rattle.reduce.proofs.profile.has_inner_and.Given as goal

abbrev pub invariant-loop-r : goal.invariant-loop-r
invariant-loop-r l = Looking l.s l.b l.r
