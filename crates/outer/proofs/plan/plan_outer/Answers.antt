-- `outer::plan::plan_outer` meets its contract.
use Rattle.std.proofs.lemmas.Result.{err_from_is_err_and}
use Rattle.rows.specs.Formats.{format_of}
use Rattle.outer.proofs.Deciding.{refused_before}
use Rattle.outer.proofs.plan.plan_outer.Goals as goal

pub returns-in_err-s : goal.returns-in_err-s
returns-in_err-s c =
    let p = err_from_is_err_and c.from_residual.result c.from_residual.ensures.1 in
    rw (p.1, p.2) (refused_before (format_of c.args.f) c.args.sheet.now c.args.x c.in_err-s.ensures)
