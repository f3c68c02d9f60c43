-- `words::cursor::skip_white`: the bytes passed are white.
use Rattle.words.proofs.ByteTurns.{Skipped}
use Rattle.words.proofs.cursor.skip_white.Given as goal

abbrev pub invariant-loop-from : goal.invariant-loop-from
invariant-loop-from l = Skipped l.b l.at l.from
