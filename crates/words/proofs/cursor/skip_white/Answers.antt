-- `words::cursor::skip_white` meets its contract.
use Rattle.std.proofs.Common.{sym, ◌∙◌, arith}
use Rattle.words.proofs.ByteTurns.{skipped_none, skipped_ends, skipped_more, skipped_all}
use Rattle.words.proofs.cursor.skip_white.Goals as goal

pub loop-from-init : goal.loop-from-init
loop-from-init c = skipped_none _ _ c.requires

pub returns-then-not-is_white : goal.returns-then-not-is_white
returns-then-not-is_white c = skipped_ends c.loop-from.invariant (omega arith) (sym c.is_white.ensures ∙ c.if-not-is_white.true)

pub loop-from-preserved : goal.loop-from-preserved
loop-from-preserved c = skipped_more c.loop-from.invariant (omega arith) (sym c.is_white.ensures ∙ c.if-not-is_white.false)

pub returns : goal.returns
returns c = skipped_all c.loop-from.invariant (omega arith)
