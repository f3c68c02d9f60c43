-- `occurrences::link` meets its contract.
use Rattle.std.proofs.Common.{◌≡◌, ◌-◌, ◌<◌, arith}
use Rattle.occurrences.proofs.TableTurns.{first_none-left, next-none-left, first_turn, next_turn}
use Rattle.occurrences.proofs.link.Goals as goal

pub loop-i-init : goal.loop-i-init
loop-i-init c =
    let a = c.args in
    (first_none-left a.b.now c.requires.0 a.ranges.now (c.fill.ensures.after (λ y e. e)) c.requires.1, next-none-left a.b.now c.requires.0 c.requires.2)

pub loop-i-preserved : goal.loop-i-preserved
loop-i-preserved c =
    let l = c.loop-i in
    let b = c.args.b.now in
    let inside : l.i - 1 < c.args.s.nodes = omega arith in
    let variable = c.literal_at-x.ensures.0 in (
      rw c.store.ensures (first_turn b c.requires.0 (omega arith) inside variable l.invariant.0),
      next_turn b c.requires.0 (omega arith) inside variable l.invariant.0 c.look.ensures l.invariant.1,
    )

pub returns : goal.returns
returns c =
    let all : c.loop-i.i ≡ 0 = omega arith in
    rw all at c.loop-i.invariant
