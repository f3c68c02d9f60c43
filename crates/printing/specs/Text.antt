-- What the programs write, byte by byte.
-- Assumes nothing.
use Rattle.std.specs.Prelude.{ℕ, List, ◌∷◌, ◌++◌, decimal}
use lib.Chars.{codes}
use Rattle.sheet.specs.Operations.{Word, says-true, says-false, says-stopped, says-refused, Line}

-- a blank and a number
abbrev pub blank_number : ℕ → List ℕ
blank_number n = 32 ∷ decimal n

abbrev pub word_text : Word → List ℕ
word_text says-true = codes "true"
word_text says-false = codes "false"
word_text says-stopped = codes "stopped"
word_text says-refused = codes "refused"

-- the program's line, without its end
abbrev pub line_text : Line → List ℕ
line_text l = word_text l.word ++ blank_number l.settled ++ blank_number l.expanded ++ blank_number l.last
