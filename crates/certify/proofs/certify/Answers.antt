-- The goals of `certify::certify`: a refusal of Check is Certify's, and else the steps are judged. Assumes nothing.
use Rattle.std.proofs.Common.{ap}
use Rattle.std.proofs.lemmas.Result.{err_from_is_err_and}
use Rattle.sheet.specs.Check.{accepted}
use Rattle.sheet.specs.Certificates.{side_for}
use Rattle.sheet.proofs.Truthful.{certify_truthful}
use Rattle.rows.specs.Formats.{format_of}
use Rattle.checking.proofs.CheckedSheets.{sheet_checked}
use Rattle.certify.proofs.Judging.{certify_refused, judged, steps_answered}
use Rattle.certify.proofs.certify.Goals as goal

pub returns-in_err-s : goal.returns-in_err-s
returns-in_err-s c =
    let a = c.args in
    let e = certify_refused (format_of a.f) a.sheet.now (side_for a.verdict) a.heads.now a.codes.now c.in_err-s.ensures.answer in
    let p = err_from_is_err_and c.from_residual.result c.from_residual.ensures.1 in
    rw (p.1, p.2)
    (record { result_value = e; truthful_certify = certify_truthful (format_of a.f) a.sheet.now (side_for a.verdict) a.heads.now a.codes.now e })

pub judge-requires : goal.judge-requires
judge-requires c = judged (sheet_checked c.in_ok-s.ensures.answer c.in_ok-s.ensures.format)

pub returns : goal.returns
returns c =
    let a = c.args in
    let e =
    steps_answered (sheet_checked c.in_ok-s.ensures.answer c.in_ok-s.ensures.format) (side_for a.verdict) a.heads.now a.codes.now
    (ap accepted c.judge.ensures) in
    record { result_value = e; truthful_certify = certify_truthful (format_of a.f) a.sheet.now (side_for a.verdict) a.heads.now a.codes.now e }
