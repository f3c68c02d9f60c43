-- `conversion::to_wide` meets its contract.
use Rattle.std.proofs.lemmas.Result.{err_from_is_err_and}
use Rattle.sheet.proofs.Conversion.{to_wide_unchecked}
use Rattle.sheet.proofs.Writing.{written}
use Rattle.sheet.proofs.Truthful.{to_wide_truthful}
use Rattle.checking.proofs.CheckedSheets.{sheet_checked}
use Rattle.conversion.proofs.Tests.{to_wide_ready, to_wide_checked}
use Rattle.conversion.proofs.to_wide.Goals as goal

pub returns-in_err-s-clause-out_after : goal.returns-in_err-s-clause-out_after
returns-in_err-s-clause-out_after c =
    let p = err_from_is_err_and c.from_residual.result c.from_residual.ensures.1 in
    rw (p.1, p.2) (written (to_wide_unchecked c.args.sheet.now c.args.out.now c.in_err-s.ensures.answer))

pub convert_within-requires : goal.convert_within-requires
convert_within-requires c = to_wide_ready (sheet_checked c.in_ok-s.ensures.answer c.in_ok-s.ensures.format)

pub returns : goal.returns
returns c =
    let s = c.in_ok-s.ensures in
    let e = to_wide_checked (sheet_checked s.answer s.format) c.args.out.now c.convert_within.ensures in
    record { out_after = e; truthful_sheet = to_wide_truthful c.args.sheet.now c.args.out.now e }
