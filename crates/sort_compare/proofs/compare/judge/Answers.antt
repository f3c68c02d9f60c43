-- `sort_compare::compare::judge` meets its contract.
use Rattle.std.proofs.Common.{◌∙◌}
use Rattle.std.proofs.lemmas.Result.{err_from_is_err_and}
use Rattle.rows.specs.Formats.{format_of}
use Rattle.checking.proofs.CheckedSheets.{sheet_readable}
use Rattle.sort_compare.proofs.Compares.{kept_sheet, first_refused, second_refused, both_checked}
use Rattle.sort_compare.proofs.compare.judge.Goals as goal

pub returns-in_err-s : goal.returns-in_err-s
returns-in_err-s c =
    let a = c.args in
    let p = err_from_is_err_and c.from_residual.result c.from_residual.ensures.1 in
    rw (p.1, p.2)
    (first_refused (format_of a.f) a.a.now a.b.now a.first.now a.second.now c.check.result c.in_err-s.field-0.0 c.check.ensures.answer c.in_err-s.ensures.cases)

pub returns-in_err-t : goal.returns-in_err-t
returns-in_err-t c =
    let a = c.args in
    let x = kept_sheet a.f a.a.now c.check.result c.in_ok-s.s c.check.ensures.answer c.check.ensures.format c.in_ok-s.ensures.cases in
    let p = err_from_is_err_and c.from_residual-in_err-t.result c.from_residual-in_err-t.ensures.1 in
    rw (p.1, p.2)
    (second_refused (format_of a.f) a.a.now a.b.now a.first.now a.second.now x.tests_pass c.check-2.result c.in_err-t.field-0.0 c.check-2.ensures.answer
    c.in_err-t.ensures.cases)

pub compare_checked-requires : goal.compare_checked-requires
compare_checked-requires c =
    let a = c.args in
    let x = kept_sheet a.f a.a.now c.check.result c.in_ok-s.s c.check.ensures.answer c.check.ensures.format c.in_ok-s.ensures.cases in
    let y = kept_sheet a.f a.b.now c.check-2.result c.in_ok-t.t c.check-2.ensures.answer c.check-2.ensures.format c.in_ok-t.ensures.cases in
    (sheet_readable x, sheet_readable y)

pub returns : goal.returns
returns c =
    let a = c.args in
    let x = kept_sheet a.f a.a.now c.check.result c.in_ok-s.s c.check.ensures.answer c.check.ensures.format c.in_ok-s.ensures.cases in
    let y = kept_sheet a.f a.b.now c.check-2.result c.in_ok-t.t c.check-2.ensures.answer c.check-2.ensures.format c.in_ok-t.ensures.cases in
    c.compare_checked.ensures ∙ both_checked x y a.first.now a.second.now
