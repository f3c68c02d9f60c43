-- `qdimacs::header::header_line`: the text from `at` on has the same header.
use Rattle.std.proofs.Common.{length, ◌-◌}
use Rattle.qdimacs.proofs.HeaderLines.{Sought}
use Rattle.qdimacs.proofs.header.header_line.Given as goal

abbrev pub invariant-loop-at : goal.invariant-loop-at
invariant-loop-at l = Sought l.text l.at

abbrev pub decreases-loop-at : goal.decreases-loop-at
decreases-loop-at l = length l.text - l.at
