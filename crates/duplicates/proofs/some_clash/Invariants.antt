-- `duplicates::some_clash`: no member passed clashes with an earlier one.
use Rattle.duplicates.proofs.Members.{Searched}
use Rattle.duplicates.proofs.some_clash.Given as goal

abbrev pub invariant-loop-n : goal.invariant-loop-n
invariant-loop-n l = Searched l.s l.b l.initial.heads l.initial.links l.initial.members l.count l.heads l.links l.members l.n
