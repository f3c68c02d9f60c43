-- `relevance::subtree::first_behind`: from the row at hand the way leads to the same row.
use Rattle.std.proofs.Common.{ℕ, ◌-◌}
use Rattle.relevance.specs.Walks.{Way}
use Rattle.relevance.proofs.subtree.first_behind.Given as goal

abbrev pub invariant-loop-row : goal.invariant-loop-row
invariant-loop-row l = (to : ℕ) → Way l.next l.end l.from to → Way l.next l.end l.row to

abbrev pub decreases-loop-row : goal.decreases-loop-row
decreases-loop-row l = l.end - l.row
