-- `tidying::pack::pack` meets its contract.
use Rattle.std.proofs.Common.{refl, length, ◌≤◌, arith}
use Rattle.rows.specs.Layouts.{total, rows_in}
use Rattle.rows.proofs.Layouts.{length-rows_in}
use Rattle.tidy_rules.proofs.Segments.{room_as}
use Rattle.tidying.proofs.InPlace.{in_place_as}
use Rattle.tidying.proofs.Packed.{pack_none, pack-told, pack-safe, pack-more, pack_end}
use Rattle.tidying.proofs.pack.pack.Goals as goal
use Rattle.tidying.proofs.pack.pack.Goals.{In-loop-at}

-- the rows at a turn are as many as at first
counted : (c : In-loop-at) → total c.args.s ≤ length (rows_in c.args.s c.loop-at.b)
counted c = omega (arith, length-rows_in c.loop-at.b (room_as c.loop-at.auto.b c.requires.0.room))

pub loop-at-init : goal.loop-at-init
loop-at-init c = pack_none c.requires.1

pub put_live-to-requires : goal.put_live-to-requires
put_live-to-requires c = (
  in_place_as c.loop-at.auto.b refl c.requires.0,
  pack-told c.loop-at.invariant c.loop-at-test.true (counted (goal.at.put_live-to-requires c).In-loop-at) c.requires.1,
  c.loop-at.invariant.behind,
)

pub loop-at-smaller : goal.loop-at-smaller
loop-at-smaller c =
    let safe = pack-safe c.loop-at.invariant c.loop-at-test.true (counted (goal.at.loop-at-smaller c).In-loop-at) c.requires.1 in
    omega (arith, c.loop-at-test.true, c.stride_at-step.ensures.0, safe.0)

pub loop-at-preserved : goal.loop-at-preserved
loop-at-preserved c =
    pack-more c.loop-at.invariant c.loop-at-test.true (counted (goal.at.loop-at-preserved c).In-loop-at) c.requires.1 c.stride_at-step.ensures.0
    c.put_live-to.ensures

pub returns : goal.returns
returns c =
    let p = c.loop-at.invariant in
    (omega (arith, p.behind, p.within), pack_end p c.loop-at-test.false)
