-- `renaming::prefix::write_all_copied` meets its contract.
use Rattle.std.proofs.Common.{arith}
use Rattle.raw.proofs.Raws.{room_on}
use Rattle.renaming.proofs.Copied.{copying-room, copying-next, copying-all}
use Rattle.renaming.proofs.prefix.write_all_copied.Goals as goal

pub write_copied-at-requires : goal.write_copied-at-requires
write_copied-at-requires c =
    let a = c.args in
    let l = c.loop-j in (
      room_on c.requires.1 l.invariant.same_length,
      copying-room a.b.now c.requires.0 a.table.now a.to.layout a.out.now a.to.at c.loop-j-test.true l.invariant c.bound_at.ensures.0 c.requires.2,
    )

pub loop-j-preserved : goal.loop-j-preserved
loop-j-preserved c =
    let a = c.args in
    copying-next a.b.now c.requires.0 a.table.now a.to.layout a.out.now a.to.at c.loop-j-test.true c.loop-j.invariant c.bound_at.ensures.0
    (omega arith) c.write_copied-at.ensures c.write_copied-at.auto.out

pub returns : goal.returns
returns c =
    let a = c.args in
    copying-all a.b.now c.requires.0 a.table.now a.to.layout a.out.now a.to.at (omega (arith, c.loop-j.auto)) c.loop-j.invariant
