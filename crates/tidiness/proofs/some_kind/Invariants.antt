-- `tidiness::some_kind`: no subtree passed is of the kind.
use Rattle.std.proofs.Common.{◌-◌}
use Rattle.subtrees.specs.Subtrees.{siblings_in}
use Rattle.subtrees.proofs.Siblings.{Looking}
use Rattle.tidiness.specs.Faults.{some_kind}
use Rattle.tidiness.proofs.some_kind.Given as goal

abbrev pub invariant-loop : goal.invariant-loop
invariant-loop l = Looking (some_kind l.kind) l.s l.b (some_kind l.kind (siblings_in l.s l.b l.fn.c.at l.fn.c.left)) l.at (l.fn.c.left - l.counter)
