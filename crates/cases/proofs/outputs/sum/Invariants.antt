-- `cases::outputs::sum`: the sum so far stays below 65,521.
use Rattle.std.proofs.Common.{◌<◌}
use Rattle.cases.proofs.outputs.sum.Given as goal

abbrev pub invariant-loop-byte : goal.invariant-loop-byte
invariant-loop-byte l = l.so_far < 65521
