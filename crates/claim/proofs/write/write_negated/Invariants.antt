-- `claim::write::write_negated`: the rows of the span before row r are written.
use Rattle.claim.proofs.Turns.{Negating}
use Rattle.claim.proofs.write.write_negated.Given as goal

abbrev pub invariant-loop-r : goal.invariant-loop-r
invariant-loop-r l = Negating l.s l.b l.t l.initial.out l.initial.at l.fn.span.from l.fn.span.to l.out l.at l.r
