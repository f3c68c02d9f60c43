-- `resolution::marks::mark`: what is left is gathered into the set.
use Rattle.std.proofs.Common.{◌≡◌, eqb, length}
use Rattle.sets.specs.Sets.{holds}
use Rattle.resolution.proofs.Codes.{Gathering}
use Rattle.resolution.proofs.marks.mark.Given as goal

abbrev pub invariant-loop-i : goal.invariant-loop-i
invariant-loop-i l = (length l.set ≡ length l.initial.set) × Gathering l.p.skip l.codes l.p.to eqb l.p.from (holds l.initial.set) l.i (holds l.set)
