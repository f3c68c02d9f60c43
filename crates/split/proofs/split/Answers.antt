-- `split::split` meets its contract: refused as Check refuses, and else what the accepted sheet's call leaves.
use Rattle.std.proofs.Common.{◌≡◌, ap, ◌∙◌}
use Rattle.std.proofs.lemmas.Result.{err_from_is_err_and}
use Rattle.sheet.specs.Split.{split_call}
use Rattle.sheet.proofs.Truthful.{split_truthful}
use Rattle.rows.specs.Formats.{format_of}
use Rattle.rows.proofs.Limits.{sound}
use Rattle.checking.specs.Answers.{wrote}
use Rattle.checking.proofs.CheckedSheets.{sheet_checked, sheet_own}
use Rattle.split.proofs.Splitting.{unchecked_call}
use Rattle.split.proofs.split.Goals as goal

pub returns-in_err-s : goal.returns-in_err-s
returns-in_err-s c =
    let a = c.args in
    let p = err_from_is_err_and c.from_residual.result c.from_residual.ensures.1 in
    let e : wrote c.from_residual.result a.out.now ≡ split_call (format_of a.f) a.sheet.now a.values.now a.out.now
    = rw (p.1, p.2) (unchecked_call (format_of a.f) a.sheet.now a.values.now a.out.now c.in_err-s.ensures.answer) in
    record { out_after = e; truthful_split = split_truthful (format_of a.f) (sound a.f) a.sheet.now a.values.now a.out.now e }

pub split_checked-requires : goal.split_checked-requires
split_checked-requires c = sheet_own (sheet_checked c.in_ok-s.ensures.answer c.in_ok-s.ensures.format)

pub returns : goal.returns
returns c =
    let a = c.args in
    let e = c.split_checked.ensures ∙
    ap (λ f. split_call (format_of f) a.sheet.now a.values.now a.out.now) c.in_ok-s.ensures.format in
    record { out_after = e; truthful_split = split_truthful (format_of a.f) (sound a.f) a.sheet.now a.values.now a.out.now e }
