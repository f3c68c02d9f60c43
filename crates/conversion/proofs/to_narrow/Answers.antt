-- `conversion::to_narrow` meets its contract.
use Rattle.std.proofs.lemmas.Result.{err_from_is_err_and}
use Rattle.sheet.proofs.Conversion.{to_narrow_unchecked}
use Rattle.sheet.proofs.Writing.{written}
use Rattle.sheet.proofs.Truthful.{to_narrow_truthful}
use Rattle.checking.proofs.CheckedSheets.{sheet_checked}
use Rattle.conversion.proofs.to_narrow.Goals as goal

pub returns-in_err-s-clause-out_after : goal.returns-in_err-s-clause-out_after
returns-in_err-s-clause-out_after c =
    let p = err_from_is_err_and c.from_residual.result c.from_residual.ensures.1 in
    rw (p.1, p.2) (written (to_narrow_unchecked c.args.sheet.now c.args.out.now c.in_err-s.ensures.answer))

pub to_narrow_checked-requires : goal.to_narrow_checked-requires
to_narrow_checked-requires c = sheet_checked c.in_ok-s.ensures.answer c.in_ok-s.ensures.format

pub returns-clause-truthful_sheet : goal.returns-clause-truthful_sheet
returns-clause-truthful_sheet c = to_narrow_truthful c.args.sheet.now c.args.out.now c.to_narrow_checked.ensures
