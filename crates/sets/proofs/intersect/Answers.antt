-- `sets::intersect` meets its contract.
use Rattle.std.proofs.Common.{arith}
use Rattle.sets.proofs.Members.{both_hold}
use Rattle.sets.proofs.intersect.Goals as goal

pub returns-clause-by_index : goal.returns-clause-by_index
returns-clause-by_index c =
    let a = c.args in
    let l = c.loop-i in
    both_hold a.first.now a.second.now l.i c.requires.0 c.requires.1 (omega (arith, c.requires, l.auto)) l.invariant
