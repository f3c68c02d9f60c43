-- `certify::initial::next_initial`: no step passed is initial.
use Rattle.certify.proofs.Settling.{Derived}
use Rattle.certify.proofs.initial.next_initial.Given as goal

abbrev pub invariant-loop-k : goal.invariant-loop-k
invariant-loop-k l = Derived l.heads l.from l.k
