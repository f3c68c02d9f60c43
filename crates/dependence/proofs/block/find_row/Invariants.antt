-- `dependence::block::find_row`: no row passed is such a row.
use Rattle.dependence.proofs.Blocks.{Finding}
use Rattle.dependence.proofs.block.find_row.Given as goal

abbrev pub invariant-loop-j : goal.invariant-loop-j
invariant-loop-j l = Finding l.s l.b l.exists l.from l.j
