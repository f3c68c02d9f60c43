-- Literals as numbers of 32 bits with a sign (N1, "a negative whole number is the negated literal").
-- Assumes nothing.
use Rattle.std.specs.Prelude.{Bool, true, false, cond, ℕ, zero, suc, ltb, ℤ, pos, negsuc, nat_abs}

-- the number, or the largest of 31 bits
abbrev pub clamped : ℕ → ℕ
clamped n = cond (ltb 2147483647 n) 2147483647 n

-- with a minus sign, from the lowest number on
unfoldable pub minus : ℕ → ℤ
minus zero = pos 0
minus (suc n) = negsuc (clamped n)

unfoldable pub literal : Bool → ℕ → ℤ
literal true m = minus m
literal false m = pos (clamped m)

abbrev pub variable : ℤ → ℕ
variable z = nat_abs z

-- 3 a variable, 4 its negation
abbrev pub kind : ℤ → ℕ
kind (pos n) = 3
kind (negsuc n) = 4
