-- `pairs::write_left`: a row a turn, and the pairs of those passed are written.
use Rattle.formula.specs.Strategy.{winner}
use Rattle.pairs.proofs.Leaving.{Leaving}
use Rattle.pairs.proofs.write_left.Given as goal

abbrev pub invariant-loop-i : goal.invariant-loop-i
invariant-loop-i l = Leaving (winner l.exists) l.s l.b l.to.layout l.initial.out l.initial.at l.out l.at l.i
