-- `claim::write::write_quantifiers`: the rows of the prefix before row i are written.
use Rattle.claim.proofs.Turns.{Quantified}
use Rattle.claim.proofs.write.write_quantifiers.Given as goal

abbrev pub invariant-loop-i : goal.invariant-loop-i
invariant-loop-i l = Quantified l.s l.b l.kind l.t l.initial.out l.out l.i
