-- `dependence::block::one_block_out` meets its contract: by the first existential row and the first universal one behind it.
use Rattle.std.proofs.Common.{arith}
use Rattle.dependence.proofs.Blocks.{out-existential, out_none, out_some}
use Rattle.dependence.proofs.block.one_block_out.Goals as goal

pub returns-then-is_existential : goal.returns-then-is_existential
returns-then-is_existential c = out-existential c.args.b.now c.requires.0 c.requires.2 c.is_existential.ensures c.if-is_existential.true

pub returns-in_default : goal.returns-in_default
returns-in_default c =
    out_none c.args.b.now c.requires.0 c.requires.2 c.is_existential.ensures c.if-is_existential.false (omega arith) c.in_default.ensures (omega arith)

pub returns : goal.returns
returns c =
    out_some c.args.b.now c.requires.0 c.requires.2 c.is_existential.ensures c.if-is_existential.false (omega arith)
    c.in-Some.ensures.1 c.in-Some.ensures.0 c.find_row-2.result (omega arith) c.find_row-2.ensures c.is_none.ensures
