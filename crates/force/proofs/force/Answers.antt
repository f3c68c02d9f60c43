-- `force::force` meets its contract: refused as Check refuses, and else what the accepted sheet's call leaves.
use Rattle.std.proofs.Common.{◌≡◌, ap, ◌∙◌}
use Rattle.std.proofs.lemmas.Result.{err_from_is_err_and}
use Rattle.sheet.specs.Force.{force_call}
use Rattle.sheet.proofs.Truthful.{force_truthful}
use Rattle.rows.specs.Formats.{format_of}
use Rattle.checking.proofs.CheckedSheets.{sheet_checked, sheet_own}
use Rattle.force.specs.Answers.{forcing_of}
use Rattle.force.proofs.Answering.{unchecked_call}
use Rattle.force.proofs.force.Goals as goal

pub returns-in_err-s : goal.returns-in_err-s
returns-in_err-s c =
    let a = c.args in
    let p = err_from_is_err_and c.from_residual.result c.from_residual.ensures.1 in
    let e : forcing_of c.from_residual.result a.first.now a.second.now ≡ force_call (format_of a.f) a.sheet.now a.values.now a.first.now a.second.now
    = rw (p.1, p.2) (unchecked_call (format_of a.f) a.sheet.now a.values.now a.first.now a.second.now c.in_err-s.ensures.answer) in
    record { second_after = e; truthful_force = force_truthful (format_of a.f) a.sheet.now a.values.now a.first.now a.second.now e }

pub force_checked-requires : goal.force_checked-requires
force_checked-requires c = sheet_own (sheet_checked c.in_ok-s.ensures.answer c.in_ok-s.ensures.format)

pub returns : goal.returns
returns c =
    let a = c.args in
    let e = c.force_checked.ensures ∙
    ap (λ f. force_call (format_of f) a.sheet.now a.values.now a.first.now a.second.now) c.in_ok-s.ensures.format in
    record { second_after = e; truthful_force = force_truthful (format_of a.f) a.sheet.now a.values.now a.first.now a.second.now e }
