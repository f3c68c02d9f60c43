-- `sort_compare::sort::sort_checked` meets its contract.
use Rattle.rows.specs.Layouts.{format_in}
use Rattle.sort_compare.proofs.Sorts.{short_sort, long_sort}
use Rattle.sort_compare.proofs.sort.sort_checked.Goals as goal

pub returns-then-out-sheet : goal.returns-then-out-sheet
returns-then-out-sheet c =
    let a = c.args in
    short_sort (format_in a.s) a.sheet.now a.out.now c.requires.tests_pass c.if-out-sheet.true

pub returns : goal.returns
returns c =
    let a = c.args in
    long_sort (format_in a.s) a.sheet.now a.out.now c.requires.tests_pass c.if-out-sheet.false c.sort_into.ensures.value
    c.sort_into.ensures.out_after
