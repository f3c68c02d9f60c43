-- `tidy_rules::rules::find_duplicate`: no member passed holds the same tree.
use Rattle.rows.specs.Layouts.{rows_in}
use Rattle.buckets.specs.Chains.{entry_of}
use Rattle.tidy_rules.proofs.Find.{SeekDuplicate}
use Rattle.tidy_rules.proofs.rules.find_duplicate.Given as goal

abbrev pub invariant-loop-link : goal.invariant-loop-link
invariant-loop-link l = SeekDuplicate (rows_in l.s l.b) l.links l.members l.fn.start l.m l.link

abbrev pub decreases-loop-link : goal.decreases-loop-link
decreases-loop-link l = entry_of l.link
