-- `raw::runs::write_runs` meets its contract.
use Rattle.std.proofs.Common.{◌≡◌, ◌*◌, ◌+◌, ◌<◌, length, subst, arith}
use Rattle.substitution.proofs.Splice.{ready_on}
use Rattle.raw.proofs.RunTurns.{Running, running_all, run-within, run_room, running-next}
use Rattle.raw.proofs.runs.write_runs.Goals as goal

pub write_copy-at-requires : goal.write_copy-at-requires
write_copy-at-requires c =
    let a = c.args in
    let q = c.requires in
    let more : 2 * c.loop-i.i + 1 < length a.cuts.now = omega arith in (
      ready_on q.ready c.loop-i.auto.out,
      run-within a.s a.b.now q.readable a.table.now a.cuts.now a.to.layout a.out.now a.to.at q.room more c.loop-i.invariant,
      run_room a.s a.b.now q.readable a.table.now a.cuts.now a.to.layout a.out.now a.to.at q.room more c.loop-i.invariant,
    )

pub loop-i-preserved : goal.loop-i-preserved
loop-i-preserved c =
    let a = c.args in
    let q = c.requires in
    let more : 2 * c.loop-i.i + 1 < length a.cuts.now = omega arith in
    let on : 2 * c.loop-i.i + 2 ≡ 2 * (c.loop-i.i + 1) = omega arith in
    subst (Running a.s a.b.now a.table.now a.cuts.now a.to.layout a.out.now a.to.at _ _) on
    (running-next a.s a.b.now q.readable a.table.now a.cuts.now a.to.layout a.out.now a.to.at q.room more c.loop-i.invariant
    c.write_copy-at.ensures.laid c.write_copy-at.auto.out)

pub returns : goal.returns
returns c =
    let a = c.args in
    running_all a.s a.b.now c.requires.readable a.table.now a.cuts.now a.to.layout a.out.now a.to.at (omega arith) c.loop-i.invariant
