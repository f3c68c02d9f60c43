-- `dependence::mark::mark_rows`: the rows passed are marked.
use Rattle.std.proofs.Common.{◌-◌}
use Rattle.dependence.specs.Marks.{Marked, literal_in}
use Rattle.dependence.proofs.mark.mark_rows.Given as goal

abbrev pub invariant-loop-i : goal.invariant-loop-i
invariant-loop-i l = Marked (λ v. literal_in l.s l.b v (l.i - l.from) l.from) l.initial.set l.set
