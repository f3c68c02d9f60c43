-- `pair_tests::cover::is_missing` meets its contract: a row's number is one of the table's.
use Rattle.std.proofs.Common.{arith}
use Rattle.pair_tests.proofs.Marking.{few_here}
use Rattle.pair_tests.proofs.cover.is_missing.Goals as goal

pub bounds-seen-bound_at : goal.bounds-seen-bound_at
bounds-seen-bound_at c = omega (arith, few_here c.args.b.now c.requires.0 c.args.i c.requires.2 c.bound_at.ensures.0)
