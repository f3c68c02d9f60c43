-- `qdimacs::marks::count_free` meets its contract.
use Rattle.std.proofs.Common.{arith}
use Rattle.qdimacs.proofs.Naming.{free-none, free_next, free_all}
use Rattle.qdimacs.proofs.marks.count_free.Goals as goal

pub loop-x-init : goal.loop-x-init
loop-x-init c = free-none _ _

pub loop-x-preserved : goal.loop-x-preserved
loop-x-preserved c = free_next c.loop-x.x _ c.loop-x.invariant (omega arith) (omega arith) (omega arith) c.from-count.ensures

pub returns : goal.returns
returns c = free_all c.loop-x.invariant (omega arith)
