-- `guards::guards` meets its contract: refused as Check refuses, and else what the accepted sheet's call leaves.
use Rattle.std.proofs.Common.{◌≡◌, ap, ◌∙◌}
use Rattle.std.proofs.lemmas.Result.{err_from_is_err_and}
use Rattle.sheet.specs.Guards.{guards_call}
use Rattle.sheet.proofs.Truthful.{guards_truthful}
use Rattle.rows.specs.Formats.{format_of}
use Rattle.rows.proofs.Limits.{sound}
use Rattle.checking.proofs.CheckedSheets.{sheet_checked, sheet_own}
use Rattle.guards.specs.Answers.{leaves}
use Rattle.guards.proofs.Deciding.{unchecked_call}
use Rattle.guards.proofs.guards.Goals as goal

pub returns-in_err-s : goal.returns-in_err-s
returns-in_err-s c =
    let a = c.args in
    let p = err_from_is_err_and c.from_residual.result c.from_residual.ensures.1 in
    let e : leaves c.from_residual.result a.out.now a.first.now a.second.now ≡
    guards_call (format_of a.f) a.sheet.now a.out.now a.first.now a.second.now
    = rw (p.1, p.2) (unchecked_call (format_of a.f) a.sheet.now a.out.now a.first.now a.second.now c.in_err-s.ensures.answer) in
    record { second_after = e; truthful_guards = guards_truthful (format_of a.f) (sound a.f) a.sheet.now a.out.now a.first.now a.second.now e }

pub guards_checked-requires : goal.guards_checked-requires
guards_checked-requires c = sheet_own (sheet_checked c.in_ok-s.ensures.answer c.in_ok-s.ensures.format)

pub returns : goal.returns
returns c =
    let a = c.args in
    let e = c.guards_checked.ensures ∙
    ap (λ f. guards_call (format_of f) a.sheet.now a.out.now a.first.now a.second.now) c.in_ok-s.ensures.format in
    record { second_after = e; truthful_guards = guards_truthful (format_of a.f) (sound a.f) a.sheet.now a.out.now a.first.now a.second.now e }
