-- `expand::execute` meets its contract.
use Rattle.std.proofs.Common.{sym, ap, ◌∙◌}
use Rattle.std.proofs.lemmas.Result.{err_from_is_err_and}
use Rattle.sheet.specs.Operations.{execute_call}
use Rattle.sheet.proofs.Truthful.{execute_truthful}
use Rattle.rows.specs.Formats.{format_of}
use Rattle.rows.proofs.Limits.{sound}
use Rattle.expand.proofs.Deciding.{refused_execution, above_ceiling, within_ceiling}
use Rattle.expand.proofs.execute.Goals as goal

pub returns-in_err-s : goal.returns-in_err-s
returns-in_err-s c =
    let a = c.args in
    let F = format_of a.f in
    let p = err_from_is_err_and c.from_residual.result c.from_residual.ensures.1 in
    let e = refused_execution F a.sheet.now a.x a.ceiling a.out.now c.in_err-s.ensures in
    rw (p.1, p.2) record { out_after = e; truthful_sheet = execute_truthful F (sound a.f) a.sheet.now a.x a.ceiling a.out.now e }

pub returns-then-ceiling-w : goal.returns-then-ceiling-w
returns-then-ceiling-w c =
    let a = c.args in
    let is = c.in_ok-s.ensures in
    let e = above_ceiling is.1 a.ceiling a.out.now c.if-ceiling-w.true ∙
    ap (λ f. execute_call (format_of f) a.sheet.now a.x a.ceiling a.out.now) is.0 in
    record { out_after = e; truthful_sheet = execute_truthful (format_of a.f) (sound a.f) a.sheet.now a.x a.ceiling a.out.now e }

pub expand_planned-requires : goal.expand_planned-requires
expand_planned-requires c = c.in_ok-s.ensures.1

pub returns : goal.returns
returns c =
    let a = c.args in
    let is = c.in_ok-s.ensures in
    let e = c.expand_planned.ensures ∙ sym (within_ceiling is.1 a.ceiling a.out.now c.if-ceiling-w.false) ∙
    ap (λ f. execute_call (format_of f) a.sheet.now a.x a.ceiling a.out.now) is.0 in
    record { out_after = e; truthful_sheet = execute_truthful (format_of a.f) (sound a.f) a.sheet.now a.x a.ceiling a.out.now e }
