-- `tidy_rules::walk::count_live`: the trees of the segments passed are counted.
use Rattle.std.proofs.Common.{◌-◌}
use Rattle.rows.specs.Layouts.{rows_in}
use Rattle.tidy_rules.proofs.Walks.{Scan, Counted}
use Rattle.tidy_rules.proofs.walk.count_live.Given as goal

abbrev pub invariant-loop-at : goal.invariant-loop-at
invariant-loop-at l = Scan (rows_in l.s l.b) l.from l.at l.to (Counted l.seen)

abbrev pub decreases-loop-at : goal.decreases-loop-at
decreases-loop-at l = l.to - l.at
