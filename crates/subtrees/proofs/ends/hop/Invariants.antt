-- `subtrees::ends::hop`: what is left to hop over ends at the same row.
use Rattle.std.proofs.Common.{◌≡◌, ◌-◌}
use Rattle.subtrees.specs.Ends.{hops, Hops}
use Rattle.subtrees.proofs.ends.hop.Given as goal

abbrev pub invariant-loop : goal.invariant-loop
invariant-loop l = Hops l.ends l.at (l.count - l.counter) × (hops l.ends l.from l.count ≡ hops l.ends l.at (l.count - l.counter))
