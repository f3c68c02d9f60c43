-- `outer::outer` meets its contract.
use Rattle.std.proofs.Common.{ap₂, ◌∙◌, ℕ}
use Rattle.std.proofs.lemmas.Result.{err_from_is_err_and}
use Rattle.rows.specs.Formats.{format_of}
use Rattle.rows.specs.declared.Format.{Format}
use Rattle.outer.specs.Answers.{outer_written}
use Rattle.outer.proofs.Sheets.{refused_plan}
use Rattle.outer.proofs.Telling.{outer_told}
use Rattle.outer.proofs.outer.Goals as goal

pub returns-in_err-w : goal.returns-in_err-w
returns-in_err-w c =
    let a = c.args in
    let p = err_from_is_err_and c.from_residual.result c.from_residual.ensures.1 in
    let t = outer_told a.f a.sheet.now a.x a.out.now (refused_plan (format_of a.f) a.sheet.now a.x a.out.now c.in_err-w.ensures) in
    rw (p.1, p.2) (record { out_after = t.0; truthful_sheet = t.1 })

pub returns : goal.returns
returns c =
    let a = c.args in
    let is = c.in_ok-w.ensures in
    let t = outer_told a.f a.sheet.now a.x a.out.now
    (c.outer_planned.ensures ∙ ap₂ (λ (g : Format) (y : ℕ). outer_written (format_of g) a.sheet.now y a.out.now) is.0 is.1) in
    record { out_after = t.0; truthful_sheet = t.1 }
