-- `words::numbers::number_of` meets its contract.
use Rattle.std.proofs.Common.{arith}
use Rattle.words.proofs.Digits.{counted_none, counted_here, counted_digit, counted_all}
use Rattle.words.proofs.numbers.number_of.Goals as goal

pub loop-c-init : goal.loop-c-init
loop-c-init c = counted_none _ c.requires

pub with_digit-value-requires : goal.with_digit-value-requires
with_digit-value-requires c = counted_here c.loop-c.invariant (omega arith)

pub loop-c-preserved : goal.loop-c-preserved
loop-c-preserved c = counted_digit c.loop-c.invariant (omega arith) c.with_digit-value.ensures.0 c.with_digit-value.ensures.1

pub returns : goal.returns
returns c = counted_all c.loop-c.invariant (omega arith)
