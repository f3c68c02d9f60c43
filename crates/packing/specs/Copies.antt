-- An answer of the step one block out in 64 bits (N6).
-- Assumes nothing.
use Rattle.std.specs.Prelude.{ℕ, ◌+◌, ◌*◌, ◌%◌}
use Rattle.sheet.specs.Check.{Answer, refused, accepted}
use Rattle.sheet.specs.Outer.{Copied}
use Rattle.packing.specs.Packed.{packed}

-- number and place; or the new sheet's length, which fits the first value at both formats, how many variables are copied and above it the
-- lowest of their old numbers
unfoldable pub packed_copied : Answer Copied → ℕ
packed_copied (refused number place) = packed number 0 place 0
packed_copied (accepted c) = packed 0 0 c.new_length (c.copied % 65536 + 65536 * (c.lowest % 65536))
