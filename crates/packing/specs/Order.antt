-- Compare's answer in 64 bits (N14).
-- Assumes nothing.
use Rattle.std.specs.Prelude.{ℕ}
use Rattle.formula.specs.Order.{Ordering, before, same, after}
use Rattle.sheet.specs.Order.{Compared, is_refused, is_ordered}
use Rattle.packing.specs.Packed.{packed}

-- the word: 0 before, 1 equal, 2 after
abbrev pub order_word : Ordering → ℕ
order_word before = 0
order_word same = 1
order_word after = 2

-- number and place, with the sheet refused (1 or 2) as the word; or the word of the order
unfoldable pub packed_compared : Compared → ℕ
packed_compared (is_refused which number place) = packed number which place 0
packed_compared (is_ordered o) = packed 0 (order_word o) 0 0
