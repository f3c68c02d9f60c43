-- `prefixes::block_start` meets its contract: the block goes on to row i - 1 exactly if the quantifier there is the same.
use Rattle.std.proofs.Common.{arith}
use borrow.Author.Tests.{not-true, not-false}
use Rattle.prefixes.proofs.Walks.{last_row, one_more, other_kind, at_first}
use Rattle.prefixes.proofs.block_start.Goals as goal

pub loop-i-init : goal.loop-i-init
loop-i-init c = last_row c.args.b.now c.requires.0 (omega arith) (omega arith) c.is_existential-exists.ensures

pub returns-then-is_existential-exists : goal.returns-then-is_existential-exists
returns-then-is_existential-exists c =
    let begins = other_kind c.args.b.now c.requires.0 (omega arith) c.loop-i.invariant c.is_existential.ensures (not-true _ c.if-is_existential-exists.true) in
    omega (arith, begins)

pub loop-i-preserved : goal.loop-i-preserved
loop-i-preserved c =
    one_more c.args.b.now c.requires.0 (omega arith) c.loop-i.invariant c.is_existential.ensures (not-false _ c.if-is_existential-exists.false)

pub returns : goal.returns
returns c =
    let first = at_first c.args.b.now c.requires.0 c.loop-i-test.false c.loop-i.invariant in
    omega (arith, first)
