-- `substitution::table::keep_all` meets its contract.
use Rattle.std.proofs.Common.{arith}
use Rattle.substitution.proofs.Tables.{keeping_none, keeping_next, keeping_all}
use Rattle.substitution.proofs.table.keep_all.Goals as goal

pub loop-i-init : goal.loop-i-init
loop-i-init c = keeping_none c.args.table.now

pub loop-i-preserved : goal.loop-i-preserved
loop-i-preserved c = keeping_next (omega arith) c.loop-i.invariant

pub returns : goal.returns
returns c = keeping_all (omega arith) c.loop-i.invariant
