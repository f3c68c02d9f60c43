-- `tree_order::merging::merge`: what is merged and what is left are the two runs merged; each turn takes a tree.
use Rattle.std.proofs.Common.{◌+◌}
use Rattle.tree_order.proofs.Merge.{Merging}
use Rattle.tree_order.proofs.merging.merge.Given as goal

abbrev pub invariant-loop-m : goal.invariant-loop-m
invariant-loop-m l = Merging l.s l.b l.ends l.at l.initial.m l.initial.spare l.spare l.m

abbrev pub decreases-loop-m : goal.decreases-loop-m
decreases-loop-m l = l.m.lefts + l.m.rights
