-- `prefixes::block_start`: from row i on all rows are of one kind.
use Rattle.prefixes.proofs.Walks.{Block}
use Rattle.prefixes.proofs.block_start.Given as goal

abbrev pub invariant-loop-i : goal.invariant-loop-i
invariant-loop-i l = Block l.s l.b l.exists l.i
