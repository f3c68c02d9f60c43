-- `tree_order::merging::merge` meets its contract.
use Rattle.std.proofs.Common.{arith}
use Rattle.tree_order.proofs.Merge.{merging_end}
use Rattle.tree_order.proofs.merging.merge.Goals as goal

pub returns : goal.returns
returns c =
    let a = c.args in
    merging_end a.s a.b.now a.ends.now a.at.now a.start (omega arith) c.requires.3 c.loop-m.invariant c.copy_entries.ensures
