-- `dependence::block::find_row` meets its contract.
use Rattle.std.proofs.Common.{arith}
use Rattle.dependence.proofs.Blocks.{find_start, find_found, find_on, find_none}
use Rattle.dependence.proofs.block.find_row.Goals as goal

pub loop-j-init : goal.loop-j-init
loop-j-init c = find_start c.args.s c.args.b.now c.args.exists c.args.from c.requires.3

pub returns-then-is_row : goal.returns-then-is_row
returns-then-is_row c =
    (c.loop-j-test.true, find_found c.args.b.now c.requires.0 c.loop-j.invariant c.loop-j-test.true c.is_row.ensures c.if-is_row.true)

pub loop-j-preserved : goal.loop-j-preserved
loop-j-preserved c =
    find_on c.args.b.now c.requires.0 c.loop-j.invariant c.loop-j-test.true c.is_row.ensures c.if-is_row.false (omega arith)

pub returns : goal.returns
returns c = find_none c.args.b.now c.requires.0 c.loop-j.invariant c.loop-j-test.false
