-- `duplicates::hashes::fill_hashes`: from row i on the table is filled.
use Rattle.duplicates.proofs.Mixing.{Filling}
use Rattle.duplicates.proofs.hashes.fill_hashes.Given as goal

abbrev pub invariant-loop-i : goal.invariant-loop-i
invariant-loop-i l = Filling l.s l.b l.initial.hashes l.hashes l.i
