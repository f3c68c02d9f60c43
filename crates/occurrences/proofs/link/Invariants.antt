-- `occurrences::link`: of the rows from the one behind on, the literals are in the tables.
use Rattle.occurrences.specs.Occurrences.{Firsts, Nexts}
use Rattle.occurrences.proofs.link.Given as goal

abbrev pub invariant-loop-i : goal.invariant-loop-i
invariant-loop-i l = Firsts l.s l.b l.i l.ranges × Nexts l.s l.b l.i l.next
