-- The sizes of tables that code keeps, enough for either format.
-- Assumes nothing.
use Rattle.std.specs.Prelude.{ℕ}

-- node rows
abbrev pub ROWS : ℕ
ROWS = 8192

-- the highest variable number, and how many numbers there are from 0 on
abbrev pub HIGHEST : ℕ
HIGHEST = 1024

abbrev pub NUMBERS : ℕ
NUMBERS = 1025
