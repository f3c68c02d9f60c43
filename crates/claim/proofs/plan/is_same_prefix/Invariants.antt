-- `claim::plan::is_same_prefix`: the rows passed are the same.
use Rattle.rows.specs.Formulas.{prefix_in}
use Rattle.claim.proofs.Deciding.{Alike}
use Rattle.claim.proofs.plan.is_same_prefix.Given as goal

abbrev pub invariant-loop-i : goal.invariant-loop-i
invariant-loop-i l = Alike (prefix_in l.s l.b) (prefix_in l.t l.d) l.i
