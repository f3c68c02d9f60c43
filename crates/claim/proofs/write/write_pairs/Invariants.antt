-- `claim::write::write_pairs`: the two children of the pairs before pair j are written.
use Rattle.claim.proofs.Turns.{Differing}
use Rattle.claim.proofs.write.write_pairs.Given as goal

abbrev pub invariant-loop-j : goal.invariant-loop-j
invariant-loop-j l = Differing l.s l.b l.kind l.t l.initial.out l.initial.at l.out l.at l.j
