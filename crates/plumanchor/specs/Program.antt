-- What the program writes to standard output, byte by byte.
-- Assumes nothing.
use Rattle.std.specs.Prelude.{ℕ, [], ◌∷◌, ◌++◌, replicate}
use Rattle.sheet.specs.Format.{Bytes, wide}
use Rattle.sheet.specs.Operations.{solve_call, line_of}
use Rattle.printing.specs.Text.{line_text}

-- the line for a wide sheet, solved in buffers of this length, and its end
abbrev pub answer_text : ℕ → Bytes → Bytes
answer_text room b = line_text (line_of (solve_call wide b (replicate room 0) (replicate room 0)).answer) ++ 10 ∷ []
