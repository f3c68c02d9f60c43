-- `occurrences::mark` meets its contract.
use Rattle.std.proofs.Common.{arith, refl}
use Rattle.occurrences.proofs.TableTurns.{mark_none, mark_turn, kept-turn}
use Rattle.occurrences.proofs.mark.Goals as goal

pub loop-i-init : goal.loop-i-init
loop-i-init c = (mark_none c.args.b.now c.requires.0 c.requires.1, λ x. refl)

pub loop-i-preserved : goal.loop-i-preserved
loop-i-preserved c =
    let l = c.loop-i in
    rw c.store.ensures (
      mark_turn c.args.b.now c.requires.0 (omega arith) c.loop-i-test.true c.literal_at-x.ensures.0 l.invariant.0,
      kept-turn c.args.ranges.now l.ranges c.literal_at-x.result l.i l.invariant.1,
    )
