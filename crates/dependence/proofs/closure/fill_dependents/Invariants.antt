-- `dependence::closure::fill_dependents`: the set grows; each member is taken once.
use Rattle.std.proofs.Common.{◌-◌}
use Rattle.rows.specs.Formulas.{formula_in}
use Rattle.sets.specs.Sets.{size}
use Rattle.dependence.proofs.Growing.{Closing}
use Rattle.dependence.proofs.closure.fill_dependents.Given as goal

abbrev pub invariant-loop-y : goal.invariant-loop-y
invariant-loop-y l = Closing l.fn.t.variable (formula_in l.s l.b) l.block l.found l.set

abbrev pub decreases-loop-y : goal.decreases-loop-y
decreases-loop-y l = 1088 - size l.set
