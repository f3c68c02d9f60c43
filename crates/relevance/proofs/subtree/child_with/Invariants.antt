-- `relevance::subtree::child_with`: no subtree passed has the row.
use Rattle.std.proofs.Common.{◌-◌}
use Rattle.relevance.specs.Walks.{span_by}
use Rattle.relevance.proofs.TurnSubtree.{Spanned}
use Rattle.relevance.proofs.subtree.child_with.Given as goal

abbrev pub invariant-loop : goal.invariant-loop
invariant-loop l = Spanned l.ends l.row (span_by l.ends l.row l.from l.count) l.at (l.count - l.counter)
