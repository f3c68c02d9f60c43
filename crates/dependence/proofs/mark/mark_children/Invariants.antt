-- `dependence::mark::mark_children`: what is marked and what is left make the whole, whatever the set is whose literals the walk goes along.
use Rattle.std.proofs.Common.{◌-◌}
use Rattle.formula.specs.Tree.{Literals}
use Rattle.subtrees.specs.Subtrees.{siblings_in}
use Rattle.relevance.proofs.TurnSubtree.{Begun}
use Rattle.dependence.proofs.Marks.{Marking}
use Rattle.dependence.proofs.mark.mark_children.Given as goal

abbrev pub invariant-loop : goal.invariant-loop
invariant-loop l = (L : Literals) → Begun L l.s l.b l.ends l.next l.initial.at l.end l.initial.row
    → Marking L l.s l.b (siblings_in l.s l.b l.initial.at l.end) l.initial.set l.at (l.end - l.counter) l.row l.set
