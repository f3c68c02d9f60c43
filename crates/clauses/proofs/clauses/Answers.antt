-- The goals of `clauses::clauses`: a refusal of Check is that of Clauses. Assumes nothing.
use Rattle.std.proofs.lemmas.Result.{err_from_is_err_and}
use Rattle.sheet.proofs.Truthful.{clauses_truthful}
use Rattle.rows.specs.Formats.{format_of}
use Rattle.rows.proofs.Limits.{sound}
use Rattle.checking.proofs.CheckedSheets.{sheet_checked, sheet_own}
use Rattle.clauses.proofs.Answering.{unchecked_call, own_call}
use Rattle.clauses.proofs.clauses.Goals as goal

pub returns-in_err-s : goal.returns-in_err-s
returns-in_err-s c =
    let a = c.args in
    let e = unchecked_call a.f a.sheet.now a.out.now c.in_err-s.ensures.answer in
    let p = err_from_is_err_and c.from_residual.result c.from_residual.ensures.1 in
    rw (p.1, p.2) (record { out_after = e; truthful_sheet = clauses_truthful (format_of a.f) (sound a.f) a.sheet.now a.out.now e })

pub clauses_checked-requires : goal.clauses_checked-requires
clauses_checked-requires c = sheet_own (sheet_checked c.in_ok-s.ensures.answer c.in_ok-s.ensures.format)

pub returns : goal.returns
returns c =
    let a = c.args in
    let e = own_call a.out.now (sheet_checked c.in_ok-s.ensures.answer c.in_ok-s.ensures.format) c.clauses_checked.ensures in
    record { out_after = e; truthful_sheet = clauses_truthful (format_of a.f) (sound a.f) a.sheet.now a.out.now e }
