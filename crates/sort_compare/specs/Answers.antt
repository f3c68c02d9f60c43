-- Compare's answer in document 02's words (N14).
-- Assumes nothing.
use Rattle.std.specs.Prelude.{Result, Ok, Err}
use Rattle.std.specs.declared.cmp.Ordering as std
use Rattle.sheet.specs.Format.{Bytes}
use Rattle.sheet.specs.Order.{is_refused, is_ordered, Comparing}
use Rattle.sheet.specs.Order as sheets
use Rattle.rows.specs.Refusals.{number_of, place_of}
use Rattle.tree_order.specs.Rows.{ordering}
use Rattle.sort_compare.specs.declared.compare.CompareRefusal.{CompareRefusal}
use Rattle.sort_compare.specs.declared.compare.CompareRefusal.TheVariants.{First, Second}

-- refused for the first sheet (1) or the second (2) with number and place; or the first sheet is before the second, equal to it, or after
-- it
abbrev pub compared_answer : Result std.Ordering CompareRefusal → sheets.Compared
compared_answer (Ok o) = is_ordered (ordering o)
compared_answer (Err (First e)) = is_refused 1 (number_of e) (place_of e)
compared_answer (Err (Second e)) = is_refused 2 (number_of e) (place_of e)

-- the same with what the two buffers hold
abbrev pub compared_with : Result std.Ordering CompareRefusal → Bytes → Bytes → Comparing
compared_with r first second = record { answer = compared_answer r; first = first; second = second }
