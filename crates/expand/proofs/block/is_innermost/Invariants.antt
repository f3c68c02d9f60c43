use Rattle.expand.proofs.Innermost.{Clear}
use Rattle.expand.proofs.block.is_innermost.Given as goal

abbrev pub invariant-loop-j : goal.invariant-loop-j
invariant-loop-j l = Clear l.s l.b l.z.row l.j
