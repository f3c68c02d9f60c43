-- The measure of `tree_order::merging::arrange`: how many trees are put in order.
use Rattle.tree_order.proofs.merging.+arrange.Given as goal

abbrev pub decreases-arrange : goal.decreases-arrange
decreases-arrange l = l.k
