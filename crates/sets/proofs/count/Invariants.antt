-- `sets::count`: so far the members of the words passed are counted.
use Rattle.std.proofs.Common.{◌≡◌, ◌*◌, ◌≤◌}
use Rattle.sets.specs.Sets.{members}
use Rattle.sets.proofs.count.Given as goal

abbrev pub invariant-loop-word : goal.invariant-loop-word
invariant-loop-word l = (l.sum ≤ 64 * l.word-index) × (l.sum ≡ members l.set (64 * l.word-index) 0)
