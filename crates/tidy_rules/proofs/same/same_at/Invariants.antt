-- `tidy_rules::same::same_at`: what is left of both is the same if all is.
use Rattle.std.proofs.Common.{◌-◌}
use Rattle.rows.specs.Layouts.{rows_in}
use Rattle.tidy_rules.proofs.Entered.{Compare}
use Rattle.tidy_rules.proofs.same.same_at.Given as goal

abbrev pub invariant-loop-i : goal.invariant-loop-i
invariant-loop-i l = Compare (rows_in l.s l.b) l.p l.q l.i l.to l.j l.end

abbrev pub decreases-loop-i : goal.decreases-loop-i
decreases-loop-i l = l.to - l.i
