-- `resolution::marks::last_rank`: what is left is gathered into the rank.
use Rattle.std.proofs.Common.{ltb}
use Rattle.resolution.specs.Codes.{ranked_behind}
use Rattle.resolution.proofs.Codes.{Gathering}
use Rattle.resolution.proofs.marks.last_rank.Given as goal

abbrev pub invariant-loop-i : goal.invariant-loop-i
invariant-loop-i l = Gathering l.p.skip l.codes l.p.to (ranked_behind l.ranks) l.p.from (λ u. ltb u l.last) l.i (λ u. ltb u l.rank)
