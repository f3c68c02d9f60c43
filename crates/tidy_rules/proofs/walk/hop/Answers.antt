-- `tidy_rules::walk::hop` meets its contract.
use Rattle.std.proofs.Common.{⊎_elim, arith}
use Rattle.rows.specs.Layouts.{total}
use Rattle.tidy_rules.proofs.Walks.{Turn}
use Rattle.tidy_rules.proofs.Hop.{hop_none, hop_turn, hop_more, hop_end}
use Rattle.tidy_rules.proofs.walk.hop.Goals.{In-loop-left}
use Rattle.tidy_rules.proofs.walk.hop.Goals as goal

pub loop-left-init : goal.loop-left-init
loop-left-init c = hop_none

-- the segment that the walk has come to
turn : (c : In-loop-left) → Turn c.args.s c.args.b.now c.loop-left.at (total c.args.s)
turn c = hop_turn c.args.b.now c.requires.0 c.loop-left.invariant c.requires.1 c.loop-left-test.true

pub live_at-left-requires : goal.live_at-left-requires
live_at-left-requires c = (c.requires.0, (turn (goal.at.live_at-left-requires c).In-loop-left).row_within)

pub overflow_sub-left : goal.overflow_sub-left
overflow_sub-left c = ⊎_elim (λ d. omega (arith, d.1)) (λ d. omega (arith, d.1)) c.live_at-left.ensures

pub extent_at-at-requires : goal.extent_at-at-requires
extent_at-at-requires c = (c.requires.0, (turn (goal.at.extent_at-at-requires c).In-loop-left).row_within)

pub overflow_add-at : goal.overflow_add-at
overflow_add-at c =
    let t = turn (goal.at.overflow_add-at c).In-loop-left in
    omega (arith, c.extent_at-at.ensures.1, t.row_within, c.requires.0)

pub loop-left-smaller : goal.loop-left-smaller
loop-left-smaller c =
    let t = turn (goal.at.loop-left-smaller c).In-loop-left in
    omega (arith, t.some_rows, t.inside, c.extent_at-at.ensures.0)

pub loop-left-preserved : goal.loop-left-preserved
loop-left-preserved c = hop_more c.loop-left.invariant c.loop-left-test.true c.live_at-left.ensures c.extent_at-at.ensures.0

pub returns : goal.returns
returns c = hop_end c.loop-left.invariant c.loop-left-test.false
