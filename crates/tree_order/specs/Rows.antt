-- Trees are compared by comparing their rows in preorder, from left to right.
-- Assumes nothing.
use Rattle.std.specs.Prelude.{cond, List, [], ◌∷◌, ℕ, leb}
use Rattle.formula.specs.Order.{Ordering, before, same, after, ◌then◌, compare_numbers}
use Rattle.sheet.specs.Format.{Row}
use Rattle.std.specs.declared.cmp.Ordering as std

-- the code's answer, in the words of the definitions
abbrev pub ordering : std.Ordering → Ordering
ordering std.TheVariants.Less = before
ordering std.TheVariants.Equal = same
ordering std.TheVariants.Greater = after

-- literals before AND before OR: the two literal kinds are one class
unfoldable pub class : ℕ → ℕ
class k = cond (leb k 4) 0 k

-- by class; then by variable or number of children; then positive first
unfoldable pub compare_row : Row → Row → Ordering
compare_row p q =
    compare_numbers (class p.kind) (class q.kind) then compare_numbers p.argument q.argument then
    compare_numbers p.kind q.kind

-- in lock step, until one list runs out
unfoldable pub compare_rows : List Row → List Row → Ordering
compare_rows [] qs = same
compare_rows (p ∷ ps) [] = same
compare_rows (p ∷ ps) (q ∷ qs) = compare_row p q then compare_rows ps qs
