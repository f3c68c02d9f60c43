-- The goals of `join::join`: a refusal of Check is Join's. Assumes nothing.
use Rattle.std.proofs.Common.{ap, ◌∙◌}
use Rattle.std.proofs.lemmas.Result.{err_from_is_err_and}
use Rattle.sheet.specs.Join.{join_call}
use Rattle.sheet.proofs.Truthful.{join_truthful}
use Rattle.rows.specs.Formats.{format_of}
use Rattle.checking.proofs.CheckedSheets.{sheet_checked, sheet_own}
use Rattle.join.proofs.Answering.{unchecked_call}
use Rattle.join.proofs.join.Goals as goal

pub returns-in_err-s : goal.returns-in_err-s
returns-in_err-s c =
    let e = unchecked_call (format_of c.args.f) c.args.sheet.now c.args.k c.args.answers.now c.in_err-s.ensures.answer in
    let p = err_from_is_err_and c.from_residual.result c.from_residual.ensures.1 in
    rw (p.1, p.2) (record { result_value = e; truthful_join = join_truthful (format_of c.args.f) c.args.sheet.now c.args.k c.args.answers.now e })

pub join_checked-requires : goal.join_checked-requires
join_checked-requires c = sheet_own (sheet_checked c.in_ok-s.ensures.answer c.in_ok-s.ensures.format)

pub returns : goal.returns
returns c =
    let a = c.args in
    let e = c.join_checked.ensures ∙ ap (λ f. join_call (format_of f) a.sheet.now a.k a.answers.now) c.in_ok-s.ensures.format in
    record { result_value = e; truthful_join = join_truthful (format_of a.f) a.sheet.now a.k a.answers.now e }
