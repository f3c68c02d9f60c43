-- `duplicates::hashes::mix_siblings`: what is left to mix in comes to the same hash.
use Rattle.std.proofs.Common.{◌≡◌, ◌<◌, ◌-◌}
use Rattle.duplicates.specs.Hashes.{mixes, Mixes}
use Rattle.duplicates.proofs.hashes.mix_siblings.Given as goal

abbrev pub invariant-loop : goal.invariant-loop
invariant-loop l =
    let left = l.count - l.counter in
    Mixes l.ends l.hashes l.at left × (mixes l.ends l.hashes l.from l.count l.start ≡ mixes l.ends l.hashes l.at left l.h) × (l.h < 65536)
