-- `tidying::tidy` meets its contract.
use Rattle.std.proofs.Common.{ap, ◌∙◌}
use Rattle.std.proofs.lemmas.Result.{err_from_is_err_and}
use Rattle.sheet.specs.Operations.{tidy_call}
use Rattle.sheet.proofs.Truthful.{tidy_truthful}
use Rattle.rows.specs.Formats.{format_of}
use Rattle.rows.proofs.Limits.{sound}
use Rattle.checking.proofs.CheckedSheets.{sheet_checked, sheet_own}
use Rattle.tidying.proofs.TidyChecked.{unchecked_call}
use Rattle.tidying.proofs.tidy.Goals as goal

pub returns-in_err-s-clause-out_after : goal.returns-in_err-s-clause-out_after
returns-in_err-s-clause-out_after c =
    let p = err_from_is_err_and c.from_residual.result c.from_residual.ensures.1 in
    rw (p.1, p.2) (unchecked_call (format_of c.args.f) c.args.sheet.now c.args.out.now c.in_err-s.ensures.answer)

pub tidy_checked-requires : goal.tidy_checked-requires
tidy_checked-requires c = sheet_own (sheet_checked c.in_ok-s.ensures.answer c.in_ok-s.ensures.format)

pub returns-clause-truthful_sheet : goal.returns-clause-truthful_sheet
returns-clause-truthful_sheet c =
    let a = c.args in
    tidy_truthful (format_of a.f) (sound a.f) a.sheet.now a.out.now
    (c.tidy_checked.ensures ∙ ap (λ g. tidy_call (format_of g) a.sheet.now a.out.now) c.in_ok-s.ensures.format)
