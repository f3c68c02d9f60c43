-- `resume::resume` meets its contract: Check refuses the sheet, or it is gone on from. Assumes nothing.
use Rattle.std.proofs.lemmas.Result.{err_from_is_err_and}
use Rattle.checking.proofs.CheckedSheets.{sheet_checked}
use Rattle.resume.proofs.Answered.{resume_told, sheet_placed, resume-checked, resume_refused}
use Rattle.resume.proofs.resume.Goals as goal

pub returns-in_err-s-clause-second_after : goal.returns-in_err-s-clause-second_after
returns-in_err-s-clause-second_after c =
    let a = c.args in
    let p = err_from_is_err_and c.from_residual.result c.from_residual.ensures.1 in
    rw (p.1, p.2) (resume_refused a.c a.sheet.now a.f a.first.now a.second.now c.in_err-s.ensures.answer)

pub returns-in_err-s-clause-truthful_solve : goal.returns-in_err-s-clause-truthful_solve
returns-in_err-s-clause-truthful_solve c =
    let a = c.args in
    (resume_told a.c a.sheet.now a.f a.first.now a.second.now (returns-in_err-s-clause-second_after c)).1

pub resume_checked-requires : goal.resume_checked-requires
resume_checked-requires c = sheet_placed (sheet_checked c.in_ok-s.ensures.answer c.in_ok-s.ensures.format)

pub returns-clause-second_after : goal.returns-clause-second_after
returns-clause-second_after c =
    let a = c.args in
    resume-checked _ a.c a.sheet.now a.first.now a.second.now (sheet_checked c.in_ok-s.ensures.answer c.in_ok-s.ensures.format) c.resume_checked.ensures

pub returns-clause-truthful_solve : goal.returns-clause-truthful_solve
returns-clause-truthful_solve c =
    let a = c.args in
    (resume_told a.c a.sheet.now a.f a.first.now a.second.now (returns-clause-second_after c)).1
