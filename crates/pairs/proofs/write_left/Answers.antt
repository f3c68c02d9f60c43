-- `pairs::write_left` meets its contract.
use Rattle.formula.specs.Strategy.{winner}
use Rattle.pairs.proofs.Leaving.{leaving_all, row_room, leaving-next}
use Rattle.pairs.proofs.write_left.Goals as goal

pub write_if_left-at-requires-clause-i_bound : goal.write_if_left-at-requires-clause-i_bound
write_if_left-at-requires-clause-i_bound c =
    let a = c.args in
    row_room (winner a.exists) a.s a.b.now c.requires.0 a.to.layout a.out.now a.to.at c.loop-i-test.true c.loop-i.invariant c.requires.1.room

pub loop-i-preserved : goal.loop-i-preserved
loop-i-preserved c =
    let a = c.args in
    leaving-next (winner a.exists) a.s a.b.now c.requires.0 a.to.layout a.out.now a.to.at c.loop-i-test.true c.loop-i.invariant
    c.write_if_left-at.ensures c.write_if_left-at.auto.out

pub returns : goal.returns
returns c =
    let a = c.args in
    leaving_all (winner a.exists) a.s a.b.now c.requires.0 a.to.layout a.out.now a.to.at c.loop-i-test.false c.loop-i.invariant
