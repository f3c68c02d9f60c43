-- `pair_tests::cover::are_marked` meets its contract.
use Rattle.std.proofs.Common.{arith}
use Rattle.pair_tests.specs.Pairs.{side, pairs_in}
use Rattle.pair_tests.proofs.Marking.{covered-all, uncovered, covered-on}
use Rattle.pair_tests.proofs.cover.are_marked.Goals as goal

pub returns-then-is_missing : goal.returns-then-is_missing
returns-then-is_missing c =
    let a = c.args in
    uncovered a.b.now c.requires.0 (side a.exists) (pairs_in a.s a.b.now) a.seen.now c.requires.2
    c.loop-i.invariant c.loop-i-test.true c.is_missing.result c.is_missing.ensures c.if-is_missing.true

pub loop-i-preserved : goal.loop-i-preserved
loop-i-preserved c =
    let a = c.args in
    covered-on a.b.now c.requires.0 (side a.exists) (pairs_in a.s a.b.now) a.seen.now c.requires.2
    c.loop-i.invariant c.loop-i-test.true c.is_missing.result c.is_missing.ensures (omega arith) c.if-is_missing.false

pub returns : goal.returns
returns c =
    let a = c.args in
    covered-all a.b.now c.requires.0 (side a.exists) (pairs_in a.s a.b.now) a.seen.now c.requires.2 c.loop-i.invariant c.loop-i-test.false
