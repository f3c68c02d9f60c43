-- `tidy_rules::walk::count_live` meets its contract.
use Rattle.std.proofs.Common.{⊎_elim, arith}
use Rattle.tidy_rules.proofs.Walks.{Turn, Counted, scan_none, scan_turn, scan_more, scan_end, counted_none, counted_more, counted_few}
use Rattle.tidy_rules.proofs.walk.count_live.Goals.{In-loop-at}
use Rattle.tidy_rules.proofs.walk.count_live.Goals as goal

pub loop-at-init : goal.loop-at-init
loop-at-init c = scan_none (Counted 0) counted_none

-- the segment that the walk has come to
turn : (c : In-loop-at) → Turn c.args.s c.args.b.now c.loop-at.at c.args.to
turn c = scan_turn c.args.b.now c.requires.0 c.loop-at.invariant c.requires.1 c.loop-at-test.true

pub live_at-seen-requires : goal.live_at-seen-requires
live_at-seen-requires c = (c.requires.0, (turn (goal.at.live_at-seen-requires c).In-loop-at).row_within)

pub overflow_add-seen : goal.overflow_add-seen
overflow_add-seen c =
    let few = counted_few c.args.b.now c.requires.0 c.loop-at.invariant c.requires.1 in
    ⊎_elim (λ d. omega (arith, few, d.1)) (λ d. omega (arith, few, d.1)) c.live_at-seen.ensures

pub extent_at-at-requires : goal.extent_at-at-requires
extent_at-at-requires c = (c.requires.0, (turn (goal.at.extent_at-at-requires c).In-loop-at).row_within)

pub overflow_add-at : goal.overflow_add-at
overflow_add-at c = omega (arith, c.extent_at-at.ensures.1, (turn (goal.at.overflow_add-at c).In-loop-at).end_within)

pub loop-at-smaller : goal.loop-at-smaller
loop-at-smaller c =
    let t = turn (goal.at.loop-at-smaller c).In-loop-at in
    omega (arith, t.some_rows, t.inside, c.extent_at-at.ensures.0)

pub loop-at-preserved : goal.loop-at-preserved
loop-at-preserved c =
    scan_more (Counted _) c.loop-at.invariant c.loop-at-test.true c.extent_at-at.ensures.0 (counted_more c.live_at-seen.ensures)

pub returns : goal.returns
returns c = (
  λ before bs after l. scan_end c.loop-at.invariant c.loop-at-test.false l,
  counted_few c.args.b.now c.requires.0 c.loop-at.invariant c.requires.1,
)
