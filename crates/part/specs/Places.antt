-- Where Part's answer stands: it is "that part of the lent kind bytes itself which the subtree covers".
-- Assumes nothing.
use Rattle.std.specs.Prelude.{◌&&◌, cond, ℕ, ◌+◌, ltb}
use Rattle.sheet.specs.Format.{Bytes, Format, header, variables, nodes}
use Rattle.sheet.specs.Check.{passes, check_tests}

-- the subtree's first kind byte; if the sheet or the node is bad, the part is empty and at the first byte
unfoldable pub part_place : Format → Bytes → ℕ → ℕ
part_place F b i = cond (passes (check_tests F b) && ltb i (nodes F b)) (header F + (variables F b + i)) 0

-- a pointer, a block of memory and an offset in it, moved on by so many bytes
abbrev pub moved_on : ℕ → ℕ × ℕ → ℕ × ℕ
moved_on n p = (p.0, n + p.1)
