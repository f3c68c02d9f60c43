-- `duplicates::gather`: the children passed are gathered.
use Rattle.std.proofs.Common.{◌-◌, length}
use Rattle.subtrees.specs.Subtrees.{kids, subtree_in}
use Rattle.duplicates.proofs.Gathering.{Gathering}
use Rattle.duplicates.proofs.gather.Given as goal

abbrev pub invariant-loop-n : goal.invariant-loop-n
invariant-loop-n l = Gathering l.s l.b (length l.initial.members) (kids (subtree_in l.s l.b l.i)) l.members l.at (l.count - l.n) l.n
