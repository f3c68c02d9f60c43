-- `words::cursor::end_of` meets its contract.
use Rattle.std.proofs.Common.{sym, ◌∙◌, arith}
use Rattle.words.proofs.ByteTurns.{led_none, led_ends, led_more, led_all}
use Rattle.words.proofs.cursor.end_of.Goals as goal

pub loop-to-init : goal.loop-to-init
loop-to-init c = led_none _ _ _ c.requires

pub returns-then-is_end : goal.returns-then-is_end
returns-then-is_end c = led_ends c.loop-to.invariant (omega arith) (sym c.is_end.ensures ∙ c.if-is_end.true)

pub loop-to-preserved : goal.loop-to-preserved
loop-to-preserved c = led_more c.loop-to.invariant (omega arith) (sym c.is_end.ensures ∙ c.if-is_end.false)

pub returns : goal.returns
returns c = led_all c.loop-to.invariant (omega arith)
