-- `duplicates::same_at`: the rows that are left decide.
use Rattle.std.proofs.Common.{◌-◌}
use Rattle.formula.specs.Tidy.{same_tree}
use Rattle.subtrees.specs.Subtrees.{subtree_in}
use Rattle.duplicates.proofs.Comparing.{Comparing}
use Rattle.duplicates.proofs.same_at.Given as goal

abbrev pub invariant-loop-left : goal.invariant-loop-left
invariant-loop-left l = Comparing l.s l.b (same_tree (subtree_in l.s l.b l.i) (subtree_in l.s l.b l.j)) l.at l.other l.left

abbrev pub decreases-loop-left : goal.decreases-loop-left
decreases-loop-left l = l.s.nodes - l.at
