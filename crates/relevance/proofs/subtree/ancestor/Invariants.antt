-- `relevance::subtree::ancestor`: the subtree reached has all literals and the same part, whatever the set is whose first and last literal are
-- given.
use Rattle.std.proofs.Common.{◌≡◌, ◌-◌}
use Rattle.formula.specs.Tree.{Literals}
use Rattle.subtrees.specs.Subtrees.{subtree_in}
use Rattle.occurrences.specs.Chains.{Bounds}
use Rattle.relevance.specs.Walks.{narrower}
use Rattle.relevance.proofs.Descent.{Narrowing}
use Rattle.relevance.proofs.subtree.ancestor.Given as goal

abbrev pub invariant-loop-at : goal.invariant-loop-at
invariant-loop-at l =
    ((L : Literals) → Bounds L l.s l.b l.range.first l.range.last → Narrowing L l.s l.b l.range.first l.at)
    × (l.next ≡ narrower l.range l.at (subtree_in l.s l.b l.at))

abbrev pub decreases-loop-at : goal.decreases-loop-at
decreases-loop-at l = l.s.nodes - l.at
