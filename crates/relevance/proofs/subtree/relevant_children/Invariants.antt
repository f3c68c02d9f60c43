-- `relevance::subtree::relevant_children`: the share so far and what is left make the whole, whatever the set is whose literals the walk goes
-- along.
use Rattle.std.proofs.Common.{◌+◌, ◌-◌}
use Rattle.formula.specs.Tree.{Literals}
use Rattle.subtrees.specs.Subtrees.{siblings_in}
use Rattle.relevance.proofs.TurnSubtree.{SiteBegun, Sharing}
use Rattle.relevance.proofs.subtree.relevant_children.Given as goal

abbrev pub invariant-loop : goal.invariant-loop
invariant-loop l =
    (L : Literals) → SiteBegun L l.fn.s l.b l.ends l.next l.fn.site l.end
    → Sharing L l.fn.s l.b (siblings_in l.fn.s l.b (l.fn.site.operator + 1) l.end) l.at (l.end - l.counter) l.row l.share
