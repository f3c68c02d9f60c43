-- `renaming::numbers::rename_all` meets its contract.
use Rattle.std.proofs.Common.{arith}
use Rattle.renaming.proofs.Renumbering.{some_left, renaming-next, renaming-all}
use Rattle.renaming.proofs.numbers.rename_all.Goals as goal

pub rename-from-requires-clause-nonzero : goal.rename-from-requires-clause-nonzero
rename-from-requires-clause-nonzero c =
    let a = c.args in
    some_left a.b.now c.requires.readable.0 a.set.now a.used.now a.highest c.loop-j-test.true c.loop-j.invariant c.bound_at.ensures.0

pub loop-j-preserved : goal.loop-j-preserved
loop-j-preserved c =
    let a = c.args in
    renaming-next a.b.now c.requires.readable.0 a.set.now a.used.now a.highest c.loop-j-test.true c.loop-j.invariant c.bound_at.ensures.0
    (omega arith) c.rename-from.ensures

pub returns : goal.returns
returns c =
    let a = c.args in
    renaming-all a.b.now c.requires.readable.0 a.set.now a.used.now a.highest (omega (arith, c.loop-j.auto)) c.loop-j.invariant
