-- `tidy_rules::walk::first_live`: what was passed holds nothing.
use Rattle.std.proofs.Common.{◌-◌}
use Rattle.rows.specs.Layouts.{rows_in}
use Rattle.tidy_rules.proofs.Walks.{Scan, Hidden}
use Rattle.tidy_rules.proofs.walk.first_live.Given as goal

abbrev pub invariant-loop-at : goal.invariant-loop-at
invariant-loop-at l = Scan (rows_in l.s l.b) l.from l.at l.to Hidden

abbrev pub decreases-loop-at : goal.decreases-loop-at
decreases-loop-at l = l.to - l.at
