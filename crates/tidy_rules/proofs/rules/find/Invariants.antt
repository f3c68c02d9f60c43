-- `tidy_rules::rules::find`: no member passed is a literal of the variable.
use Rattle.rows.specs.Layouts.{rows_in}
use Rattle.buckets.specs.Chains.{entry_of}
use Rattle.tidy_rules.specs.Rules.{Test}
use Rattle.tidy_rules.proofs.Find.{Seek}
use Rattle.tidy_rules.proofs.rules.find.Given as goal

abbrev pub invariant-loop-link : goal.invariant-loop-link
invariant-loop-link l = Seek l.links l.members l.fn.start (Test (rows_in l.s l.b) l.members l.x) l.link

abbrev pub decreases-loop-link : goal.decreases-loop-link
decreases-loop-link l = entry_of l.link
