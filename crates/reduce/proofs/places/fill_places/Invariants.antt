-- `reduce::places::fill_places`: the rows passed have their entries.
use Rattle.reduce.proofs.Table.{Filling}
use Rattle.reduce.proofs.places.fill_places.Given as goal

abbrev pub invariant-loop-i : goal.invariant-loop-i
invariant-loop-i l = Filling l.s l.b l.places l.i
