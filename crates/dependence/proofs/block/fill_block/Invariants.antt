-- `dependence::block::fill_block`: what the rows to go add is the block.
use Rattle.dependence.proofs.Blocks.{Adding}
use Rattle.dependence.proofs.block.fill_block.Given as goal

abbrev pub invariant-loop-j : goal.invariant-loop-j
invariant-loop-j l = Adding l.t.layout l.b l.initial.j l.j l.set
