-- `reduce::plan::plan_reduce` meets its contract.
use Rattle.std.proofs.Common.{subst}
use Rattle.std.proofs.lemmas.Result.{err_from_is_err_and}
use Rattle.sheet.specs.Check.{check, check_tests}
use Rattle.sheet.specs.Operations.{reduce_tests}
use Rattle.sheet.proofs.Tests.{refused_first}
use Rattle.rows.specs.Formats.{format_of}
use Rattle.checking.proofs.CheckedSheets.{sheet_checked, sheet_own}
use Rattle.reduce.specs.Inner.ReducePlan.{ReducePlans}
use Rattle.reduce.proofs.plan.plan_reduce.Goals as goal

pub plan_checked-requires : goal.plan_checked-requires
plan_checked-requires c = sheet_own (sheet_checked c.in_ok-s.ensures.answer c.in_ok-s.ensures.format)

pub returns-in_err-s : goal.returns-in_err-s
unfolding reduce_tests check
returns-in_err-s c =
    let p = err_from_is_err_and c.from_residual.result c.from_residual.ensures.1 in
    rw (p.1, p.2) (refused_first (check_tests (format_of c.args.f) c.args.sheet.now) _ _ c.args.room c.in_err-s.ensures.answer)

pub returns : goal.returns
returns c =
    subst (λ g. ReducePlans g c.args.sheet.now c.args.room c.plan_checked.result) c.in_ok-s.ensures.format c.plan_checked.ensures
