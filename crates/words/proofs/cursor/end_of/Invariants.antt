-- `words::cursor::end_of`: no byte passed ends the line or word.
use Rattle.words.specs.Words.{ends}
use Rattle.words.proofs.ByteTurns.{Led}
use Rattle.words.proofs.cursor.end_of.Given as goal

abbrev pub invariant-loop-to : goal.invariant-loop-to
invariant-loop-to l = Led (ends l.line) l.b l.at l.to
