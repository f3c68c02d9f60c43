-- `solve::solve` meets its contract: refused as Check refuses, and else what the accepted sheet's call leaves.
use Rattle.std.proofs.Common.{◌≡◌, ap, ◌∙◌}
use Rattle.std.proofs.lemmas.Result.{err_from_is_err_and}
use Rattle.sheet.specs.Operations.{solve_call}
use Rattle.sheet.proofs.Truthful.{solve_truthful}
use Rattle.rows.specs.Formats.{format_of}
use Rattle.rows.proofs.Limits.{sound}
use Rattle.checking.proofs.CheckedSheets.{sheet_checked, sheet_own}
use Rattle.solve.specs.Answers.{leaves}
use Rattle.solve.proofs.Answering.{unchecked_call}
use Rattle.solve.proofs.solve.Goals as goal

pub returns-in_err-s : goal.returns-in_err-s
returns-in_err-s c =
    let a = c.args in
    let p = err_from_is_err_and c.from_residual.result c.from_residual.ensures.1 in
    let e : leaves c.from_residual.result a.first.now a.second.now ≡ solve_call (format_of a.f) a.sheet.now a.first.now a.second.now
    = rw (p.1, p.2) (unchecked_call (format_of a.f) a.sheet.now a.first.now a.second.now c.in_err-s.ensures.answer) in
    record { second_after = e; truthful_solve = solve_truthful (format_of a.f) (sound a.f) a.sheet.now a.first.now a.second.now e }

pub solve_checked-requires : goal.solve_checked-requires
solve_checked-requires c = sheet_own (sheet_checked c.in_ok-s.ensures.answer c.in_ok-s.ensures.format)

pub returns : goal.returns
returns c =
    let a = c.args in
    let e = c.solve_checked.ensures ∙
    ap (λ f. solve_call (format_of f) a.sheet.now a.first.now a.second.now) c.in_ok-s.ensures.format in
    record { second_after = e; truthful_solve = solve_truthful (format_of a.f) (sound a.f) a.sheet.now a.first.now a.second.now e }
