-- `sort_compare::sort::sort` meets its contract.
use Rattle.std.proofs.Common.{ap, ◌∙◌}
use Rattle.std.proofs.lemmas.Result.{err_from_is_err_and}
use Rattle.sheet.specs.Order.{sort_call}
use Rattle.sheet.proofs.Truthful.{sort_truthful}
use Rattle.rows.specs.Formats.{format_of}
use Rattle.rows.proofs.Limits.{sound}
use Rattle.checking.proofs.CheckedSheets.{sheet_checked, sheet_own}
use Rattle.sort_compare.proofs.Sorts.{unchecked_sort}
use Rattle.sort_compare.proofs.sort.sort.Goals as goal

pub returns-in_err-s : goal.returns-in_err-s
returns-in_err-s c =
    let a = c.args in
    let e = unchecked_sort (format_of a.f) a.sheet.now a.out.now c.in_err-s.ensures.answer in
    let p = err_from_is_err_and c.from_residual.result c.from_residual.ensures.1 in
    rw (p.1, p.2) (record { out_after = e; truthful_sheet = sort_truthful (format_of a.f) (sound a.f) a.sheet.now a.out.now e })

pub sort_checked-requires : goal.sort_checked-requires
sort_checked-requires c = sheet_own (sheet_checked c.in_ok-s.ensures.answer c.in_ok-s.ensures.format)

pub returns : goal.returns
returns c =
    let a = c.args in
    let e = c.sort_checked.ensures ∙ ap (λ g. sort_call (format_of g) a.sheet.now a.out.now) c.in_ok-s.ensures.format in
    record { out_after = e; truthful_sheet = sort_truthful (format_of a.f) (sound a.f) a.sheet.now a.out.now e }
