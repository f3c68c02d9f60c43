-- `tidying::tidy_checked` meets its contract.
use Rattle.std.proofs.Common.{◌∙◌, arith}
use Rattle.formula.specs.Tidy.{tidied}
use Rattle.sheet.specs.Sheet.{formula}
use Rattle.rows.specs.Layouts.{format_in}
use Rattle.checking.proofs.CheckedSheets.{sheet_readable}
use Rattle.tidying.proofs.Raw.{layout_length}
use Rattle.tidying.proofs.TidyChecked.{short_call, long_call}
use Rattle.tidying.proofs.tidy_checked.Goals as goal

pub returns-then-out-sheet : goal.returns-then-out-sheet
returns-then-out-sheet c = short_call (format_in c.args.s) c.args.sheet.now c.args.out.now c.requires.tests_pass c.if-out-sheet.true

pub sheet_length-requires : goal.sheet_length-requires
sheet_length-requires c =
    let ok = sheet_readable c.requires in
    let less = c.tidy_into-t.ensures.variables_value in
    (omega (arith, less.0, ok.few_variables), omega (arith, less.1, ok.few_nodes))

pub returns : goal.returns
returns c =
    let a = c.args in
    let t = c.tidy_into-t.ensures in
    long_call (format_in a.s) a.sheet.now a.out.now c.requires.tests_pass c.if-out-sheet.false
    (c.sheet_length.ensures ∙ layout_length a.s.format (tidied (formula (format_in a.s) a.sheet.now)) t.value)
    t.out_after
