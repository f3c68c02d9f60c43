-- `expand::expand` meets its contract.
use Rattle.std.proofs.Common.{length, ap, ◌∙◌}
use Rattle.std.proofs.lemmas.Result.{err_from_is_err_and}
use Rattle.sheet.specs.Operations.{expand_call}
use Rattle.sheet.proofs.Truthful.{expand_truthful}
use Rattle.rows.specs.Formats.{format_of}
use Rattle.rows.proofs.Limits.{sound}
use Rattle.expand.proofs.Deciding.{refused_quote, refused_call}
use Rattle.expand.proofs.expand.Goals as goal

pub expand_planned-requires : goal.expand_planned-requires
expand_planned-requires c = c.in_ok-s.ensures.1

pub returns-in_err-s : goal.returns-in_err-s
returns-in_err-s c =
    let a = c.args in
    let F = format_of a.f in
    let p = err_from_is_err_and c.from_residual.result c.from_residual.ensures.1 in
    let e = refused_call F a.sheet.now a.x a.out.now (refused_quote F a.sheet.now a.x (length a.out.now) c.in_err-s.ensures) in
    rw (p.1, p.2) record { out_after = e; truthful_sheet = expand_truthful F (sound a.f) a.sheet.now a.x a.out.now e }

pub returns : goal.returns
returns c =
    let a = c.args in
    let e = c.expand_planned.ensures ∙ ap (λ f. expand_call (format_of f) a.sheet.now a.x a.out.now) c.in_ok-s.ensures.0 in
    record { out_after = e; truthful_sheet = expand_truthful (format_of a.f) (sound a.f) a.sheet.now a.x a.out.now e }
