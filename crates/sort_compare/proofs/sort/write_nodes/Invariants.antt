-- `sort_compare::sort::write_nodes`: the node rows written so far.
use Rattle.sort_compare.proofs.Written.{Wrote}
use Rattle.sort_compare.proofs.sort.write_nodes.Given as goal

abbrev pub invariant-loop-r : goal.invariant-loop-r
invariant-loop-r l = Wrote l.source l.s l.at l.initial.out l.out l.r
