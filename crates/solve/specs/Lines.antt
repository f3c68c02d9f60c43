-- The program's line in document 01's words ("one line: true, false, stopped or refused").
-- Assumes nothing.
use Rattle.sheet.specs.Operations.{Word as Said, says-true, says-false, says-stopped, says-refused, Line as Spoken, line}
use Rattle.solve.specs.declared.line.Word.{Word}
use Rattle.solve.specs.declared.line.Word.TheVariants.{True, False, Stopped, Refused}
use Rattle.solve.specs.declared.line.Line.{Line}

abbrev pub word_of : Word → Said
word_of True = says-true
word_of False = says-false
word_of Stopped = says-stopped
word_of Refused = says-refused

abbrev pub written_line : Line → Spoken
written_line l = line (word_of l.word) l.settled l.expanded l.last
