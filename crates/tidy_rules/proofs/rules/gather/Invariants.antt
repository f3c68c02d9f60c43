-- `tidy_rules::rules::gather`: what the rules leave of the trees passed is gathered, and their hashes are mixed.
use Rattle.std.proofs.Common.{◌≡◌, ◌+◌, ◌-◌, ◌≤◌, ◌<◌, take}
use Rattle.rows.specs.Layouts.{rows_in, total}
use Rattle.buckets.specs.Chains.{Linked}
use Rattle.tidy_rules.specs.Rules.{mixes}
use Rattle.tidy_rules.proofs.Gather.{Gather}
use Rattle.tidy_rules.proofs.rules.gather.Given as goal

abbrev pub invariant-loop-left : goal.invariant-loop-left
invariant-loop-left l =
    let w = l.w in
    Gather (rows_in w.sheet l.initial.b) (rows_in w.sheet l.b) l.known l.members w.from l.run l.at (total w.sheet) l.n w.owed l.left w.kind ×
    Linked l.heads l.links l.members l.n × (l.n + w.from ≤ l.at) × (l.hash ≡ mixes w.kind (take l.n l.members)) × (l.hash < 65536)

abbrev pub decreases-loop-left : goal.decreases-loop-left
decreases-loop-left l = total l.w.sheet - l.at
