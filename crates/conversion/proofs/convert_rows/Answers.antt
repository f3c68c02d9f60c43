-- `conversion::convert_rows` meets its contract.
use Rattle.std.proofs.Common.{arith}
use Rattle.conversion.proofs.RowTurns.{copied-row, copied_all}
use Rattle.conversion.proofs.convert_rows.Goals as goal

pub loop-r-preserved : goal.loop-r-preserved
loop-r-preserved c =
    copied-row _ c.requires c.loop-r.invariant (omega arith) c.kind_at.ensures c.argument_at.ensures.0 c.set_row.ensures.b_after c.set_row.auto.b

pub returns : goal.returns
returns c = copied_all _ c.requires c.loop-r.invariant (omega arith)
