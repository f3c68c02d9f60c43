-- `expand::quote::quote` meets its contract.
use Rattle.std.proofs.Common.{ap₂, ◌∙◌}
use Rattle.std.proofs.lemmas.Result.{err_from_is_err_and}
use Rattle.sheet.specs.Operations.{quote_call}
use Rattle.rows.specs.Formats.{format_of}
use Rattle.expand.proofs.Deciding.{refused_before, refused_quote_call}
use Rattle.expand.proofs.quote.quote.Goals as goal

pub quote_admitted-requires : goal.quote_admitted-requires
quote_admitted-requires c = c.in_ok-s.ensures.2

pub returns-in_err-s : goal.returns-in_err-s
returns-in_err-s c =
    let a = c.args in
    let p = err_from_is_err_and c.from_residual.result c.from_residual.ensures.1 in
    rw (p.1, p.2) (refused_quote_call (format_of a.f) a.sheet.now a.x (refused_before (format_of a.f) a.sheet.now a.x c.in_err-s.ensures))

pub returns : goal.returns
returns c =
    let a = c.args in
    let is = c.in_ok-s.ensures in
    c.quote_admitted.ensures ∙ ap₂ (λ f y. quote_call (format_of f) a.sheet.now y) is.0 is.1
