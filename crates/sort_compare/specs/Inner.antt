-- How the code of Compare goes about it: definitions that no entry point cites.
-- Assumes nothing.
use Rattle.formula.specs.Order.{compare_formulas}
use Rattle.sheet.specs.Format.{Bytes}
use Rattle.sheet.specs.Order.{Compared, is_ordered, for_sheet, room}
use Rattle.rows.specs.Formulas.{formula_in}
use Rattle.rows.specs.declared.Layout.{Layout}

-- the answer once Check has accepted both sheets
unfoldable pub checked_answer : Layout → Layout → Bytes → Bytes → Bytes → Bytes → Compared
checked_answer s t a b first second =
    for_sheet 1 (room a first) (for_sheet 2 (room b second) (is_ordered (compare_formulas (formula_in s a) (formula_in t b))))
