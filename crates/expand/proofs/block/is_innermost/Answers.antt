-- `expand::block::is_innermost` meets its contract: no row passed so far is in the way.
use Rattle.std.proofs.Common.{arith}
use Rattle.expand.proofs.Innermost.{clear_start, row-stops, row-passes, all_pass}
use Rattle.expand.proofs.block.is_innermost.Goals as goal

pub loop-j-init : goal.loop-j-init
loop-j-init c = clear_start c.args.s c.args.b.now c.requires.3.inside (omega arith)

pub returns-then-is_in_the_way : goal.returns-then-is_in_the_way
returns-then-is_in_the_way c =
    row-stops c.args.b.now c.requires.0 c.loop-j.invariant c.loop-j-test.true c.is_in_the_way.ensures c.requires.3 c.if-is_in_the_way.true

pub loop-j-preserved : goal.loop-j-preserved
loop-j-preserved c =
    row-passes c.args.b.now c.requires.0 c.loop-j.invariant c.loop-j-test.true c.is_in_the_way.ensures c.if-is_in_the_way.false (omega arith)

pub returns : goal.returns
returns c = all_pass c.args.b.now c.requires.0 c.loop-j.invariant c.requires.3 (omega arith)
