-- `jumps::parent_of` meets its contract: p goes up to its parent, and what lies between has come to its end.
use Rattle.std.proofs.Common.{arith}
use Rattle.jumps.proofs.Loops.{climb}
use Rattle.jumps.proofs.parent_of.Goals as goal

pub loop-p-smaller : goal.loop-p-smaller
loop-p-smaller c =
    let a = c.args in
    let l = c.loop-p in
    (climb a.ends.now a.parents.now a.i c.requires.3 c.requires.4 l.p c.to_row-p.result l.invariant.0 (omega arith) c.to_row-p.ensures l.invariant.1).0

pub loop-p-preserved : goal.loop-p-preserved
loop-p-preserved c =
    let a = c.args in
    let l = c.loop-p in
    let up = climb a.ends.now a.parents.now a.i c.requires.3 c.requires.4 l.p c.to_row-p.result l.invariant.0 (omega arith) c.to_row-p.ensures l.invariant.1 in
    (omega (arith, up.0), up.1)

pub returns : goal.returns
returns c =
    let l = c.loop-p in
    record { before = l.invariant.0; still_open = omega (arith, c.to_row.ensures); others_closed = l.invariant.1 }
