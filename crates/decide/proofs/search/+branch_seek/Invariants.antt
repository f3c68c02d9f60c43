-- The measures of the cycle of calls {branch, seek}. Each call of `seek` has a shorter stack than the `branch` that made it, and `branch` the
-- stack of the `seek` that made it.
use Prim.Native.Nat.{suc, ◌*◌}
use lib.ListN.{length}
use Rattle.decide.proofs.search.+branch_seek.Given as goal

abbrev pub decreases-branch : goal.decreases-branch
decreases-branch l = 2 * length l.stack.now

abbrev pub decreases-seek : goal.decreases-seek
decreases-seek l = suc (2 * length l.stack.now)
