-- `reduce::reduce` meets its contract.
use Rattle.std.proofs.Common.{ap, ◌∙◌}
use Rattle.std.proofs.lemmas.Result.{err_from_is_err_and}
use Rattle.sheet.specs.Operations.{reduce_call}
use Rattle.sheet.proofs.Truthful.{reduce_truthful}
use Rattle.rows.specs.Formats.{format_of}
use Rattle.rows.proofs.Limits.{sound}
use Rattle.checking.proofs.CheckedSheets.{sheet_format}
use Rattle.reduce.proofs.Deciding.{own_plan, refused_call, reduced_call}
use Rattle.reduce.proofs.reduce.Goals as goal

pub reduce_into-requires : goal.reduce_into-requires
reduce_into-requires c = own_plan c.in_ok-s.ensures

pub returns-in_err-s : goal.returns-in_err-s
returns-in_err-s c =
    let a = c.args in
    let e = refused_call (format_of a.f) a.sheet.now a.out.now c.in_err-s.ensures in
    let p = err_from_is_err_and c.from_residual.result c.from_residual.ensures.1 in
    rw (p.1, p.2) (record { out_after = e; truthful_sheet = reduce_truthful (format_of a.f) (sound a.f) a.sheet.now a.out.now e })

pub returns : goal.returns
returns c =
    let a = c.args in
    let e = reduced_call a.out.now (own_plan c.in_ok-s.ensures) c.reduce_into.ensures.value c.reduce_into.ensures.out_after ∙
    ap (λ g. reduce_call (format_of g) a.sheet.now a.out.now) (sheet_format (c.in_ok-s.ensures).sheet) in
    record { out_after = e; truthful_sheet = reduce_truthful (format_of a.f) (sound a.f) a.sheet.now a.out.now e }
