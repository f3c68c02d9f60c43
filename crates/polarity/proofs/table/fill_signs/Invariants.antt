-- `polarity::table::fill_signs`: the rows passed are marked, and so many trees are left of the child of the root at hand.
use Rattle.subtrees.specs.Subtrees.{Beside}
use Rattle.polarity.proofs.Marks.{Marking, signs_from}
use Rattle.polarity.proofs.table.fill_signs.Given as goal

abbrev pub invariant-loop-i : goal.invariant-loop-i
invariant-loop-i l = Beside l.s l.b l.i l.left × Marking l.initial.signs (signs_from l.s l.b 1 0) (signs_from l.s l.b l.i l.left) l.signs
