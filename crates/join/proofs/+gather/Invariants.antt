-- The measure of `join::gather`: with each row the rows left fall.
use Prim.Native.Nat.{◌-◌}
use Rattle.join.proofs.+gather.Given as goal

abbrev pub decreases-gather : goal.decreases-gather
decreases-gather l = l.k - l.i
