-- `words::numbers::all_digits` meets its contract.
use Rattle.std.proofs.Common.{refl, sym, ◌∙◌, arith}
use Rattle.words.proofs.Digits.{looked_other, looked_digit, looked_all}
use Rattle.words.proofs.numbers.all_digits.Goals as goal

pub loop-c-init : goal.loop-c-init
loop-c-init c = record { so_far = refl }

pub returns-then-not-is_digit : goal.returns-then-not-is_digit
returns-then-not-is_digit c = looked_other c.loop-c.invariant (omega arith) (sym c.is_digit.ensures ∙ c.if-not-is_digit.true)

pub loop-c-preserved : goal.loop-c-preserved
loop-c-preserved c = looked_digit c.loop-c.invariant (omega arith) (sym c.is_digit.ensures ∙ c.if-not-is_digit.false)

pub returns : goal.returns
returns c = looked_all c.loop-c.invariant (omega arith)
