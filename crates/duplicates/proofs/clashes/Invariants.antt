-- `duplicates::clashes`: no member passed in the chain clashes.
use Rattle.std.proofs.Common.{◌≡◌, get_or, true}
use Rattle.buckets.specs.Chains.{entry_of, bucket, Passed}
use Rattle.duplicates.specs.Members.{clashes_with}
use Rattle.duplicates.proofs.clashes.Given as goal

abbrev pub invariant-loop-link : goal.invariant-loop-link
invariant-loop-link l = Passed l.members l.n (bucket l.m) (λ j. clashes_with l.s l.b l.m (get_or l.members j 0) ≡ true) l.link

abbrev pub decreases-loop-link : goal.decreases-loop-link
decreases-loop-link l = entry_of l.link
