-- `conversion::has_above` meets its contract.
use Rattle.std.proofs.Common.{arith}
use Rattle.conversion.proofs.RowTurns.{looked-found, looked-row, looked_all}
use Rattle.conversion.proofs.has_above.Goals as goal

pub returns-then-most-argument_at : goal.returns-then-most-argument_at
returns-then-most-argument_at c = looked-found _ _ c.requires c.loop-r.invariant (omega arith) c.argument_at.ensures.0 (omega arith)

pub loop-r-preserved : goal.loop-r-preserved
loop-r-preserved c = looked-row _ _ c.requires c.loop-r.invariant (omega arith) c.argument_at.ensures.0 (omega arith)

pub returns : goal.returns
returns c = looked_all _ _ c.requires (omega arith) c.loop-r.invariant
