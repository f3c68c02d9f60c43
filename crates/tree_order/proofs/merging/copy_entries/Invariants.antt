-- `tree_order::merging::copy_entries`: the entries passed are copied.
use Rattle.std.proofs.Common.{length}
use Rattle.rows.proofs.Pasting.{Pasted}
use Rattle.tree_order.proofs.merging.copy_entries.Given as goal

abbrev pub invariant-loop-i : goal.invariant-loop-i
invariant-loop-i l = Pasted l.from l.to (length l.from) l.initial.table l.table l.i
