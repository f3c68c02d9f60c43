-- `elimination::admission::admit` meets its contract.
use Rattle.std.proofs.Common.{subst}
use Rattle.std.proofs.lemmas.Result.{err_from_is_err_and}
use Rattle.sheet.specs.Check.{check, check_tests}
use Rattle.sheet.specs.Operations.{tidy_and_bound_tests}
use Rattle.sheet.proofs.Tests.{refused_first}
use Rattle.rows.specs.Formats.{format_of}
use Rattle.checking.proofs.CheckedSheets.{sheet_checked, sheet_own}
use Rattle.elimination.specs.Admission.{admission_tests, Admits}
use Rattle.elimination.proofs.admission.admit.Goals as goal

pub admit_checked-requires : goal.admit_checked-requires
admit_checked-requires c = (sheet_own (sheet_checked c.in_ok-s.ensures.answer c.in_ok-s.ensures.format), c.requires)

pub returns-in_err-s : goal.returns-in_err-s
unfolding admission_tests check
returns-in_err-s c =
    let a = c.args in
    let p = err_from_is_err_and c.from_residual.result c.from_residual.ensures.1 in
    rw (p.1, p.2) (refused_first (check_tests (format_of a.f) a.sheet.now) (tidy_and_bound_tests (format_of a.f) a.sheet.now a.x) _ a.x c.in_err-s.ensures.answer)

pub returns : goal.returns
returns c =
    let a = c.args in
    subst (λ f. Admits f a.sheet.now a.x c.admit_checked.new.ends c.admit_checked.result) c.in_ok-s.ensures.format c.admit_checked.ensures
