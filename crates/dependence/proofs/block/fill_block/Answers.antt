-- `dependence::block::fill_block` meets its contract.
use Rattle.std.proofs.Common.{arith}
use Rattle.dependence.proofs.Blocks.{adding_start, adding_on, adding_done}
use Rattle.dependence.proofs.block.fill_block.Goals as goal

pub loop-j-init : goal.loop-j-init
loop-j-init c = adding_start c.args.t.layout c.args.b.now _ (omega arith) c.requires.3

pub loop-j-preserved : goal.loop-j-preserved
loop-j-preserved c =
    adding_on c.args.b.now c.requires.0 c.requires.2.few_numbers c.loop-j.invariant c.loop-j-test.true (omega arith) c.add_row.ensures

pub returns : goal.returns
returns c = adding_done c.args.b.now c.requires.0 c.requires.2.few_numbers c.loop-j.invariant c.requires.2 (omega arith) c.loop-j-test.false
