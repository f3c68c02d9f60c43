-- `settle::settle` meets its contract.
use Rattle.std.proofs.Common.{sym, ap, ◌∙◌, arith}
use Rattle.std.proofs.lemmas.Result.{err_from_is_err_and}
use Rattle.sheet.specs.Format.{sheet_length}
use Rattle.sheet.specs.Operations.{settle_call}
use Rattle.sheet.proofs.Truthful.{settle_truthful}
use Rattle.rows.specs.Formats.{format_of}
use Rattle.rows.proofs.Limits.{sound}
use Rattle.settle.proofs.Deciding.{refused_call, settled_call}
use Rattle.settle.proofs.settle.Goals as goal

pub settle_into-t-requires : goal.settle_into-t-requires
settle_into-t-requires c = c.in_ok-s.ensures.1.puts

pub sheet_length-requires : goal.sheet_length-requires
sheet_length-requires c =
    let few = c.in_ok-s.ensures.1.puts.from.readable in
    let sizes = c.settle_into-t.ensures.variables_value in
    (omega (arith, sizes.0, few.few_variables), omega (arith, sizes.1, few.few_nodes))

pub returns-in_err-s : goal.returns-in_err-s
returns-in_err-s c =
    let a = c.args in
    let p = err_from_is_err_and c.from_residual.result c.from_residual.ensures.1 in
    let e = refused_call (format_of a.f) a.sheet.now a.x a.out.now c.in_err-s.ensures in
    rw (p.1, p.2) record { out_after = e; truthful_sheet = settle_truthful (format_of a.f) (sound a.f) a.sheet.now a.x a.out.now e }

pub returns : goal.returns
returns c =
    let a = c.args in
    let is = c.in_ok-s.ensures in
    let written = c.settle_into-t.ensures in
    let t = c.settle_into-t.result in
    let long = c.sheet_length.ensures ∙ ap (λ f. sheet_length (format_of f) t.variables t.nodes) (sym is.0) in
    let e = settled_call a.out.now is.1 written.value long written.out_after ∙ ap (λ f. settle_call (format_of f) a.sheet.now a.x a.out.now) is.0 in
    record { out_after = e; truthful_sheet = settle_truthful (format_of a.f) (sound a.f) a.sheet.now a.x a.out.now e }
