-- `tidying::pack::pack`: the rows packed and those of the trees ahead are those of all trees.
use Rattle.std.proofs.Common.{◌-◌}
use Rattle.rows.specs.Layouts.{total, rows_in}
use Rattle.tidying.proofs.Packed.{Pack}
use Rattle.tidying.proofs.pack.pack.Given as goal

abbrev pub invariant-loop-at : goal.invariant-loop-at
invariant-loop-at l = Pack (rows_in l.s l.initial.b) (rows_in l.s l.b) l.known l.s.variables (total l.s) l.at l.to

abbrev pub decreases-loop-at : goal.decreases-loop-at
decreases-loop-at l = total l.s - l.at
