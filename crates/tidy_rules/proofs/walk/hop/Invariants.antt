-- `tidy_rules::walk::hop`: of the trees that are owed, those not yet passed are left.
use Rattle.std.proofs.Common.{◌-◌}
use Rattle.rows.specs.Layouts.{rows_in, total}
use Rattle.tidy_rules.proofs.Hop.{Hop}
use Rattle.tidy_rules.proofs.walk.hop.Given as goal

abbrev pub invariant-loop-left : goal.invariant-loop-left
invariant-loop-left l = Hop (rows_in l.s l.b) l.from l.at (total l.s) l.owed l.left

abbrev pub decreases-loop-left : goal.decreases-loop-left
decreases-loop-left l = total l.s - l.at
