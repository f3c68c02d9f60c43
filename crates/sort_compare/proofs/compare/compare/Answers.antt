-- `sort_compare::compare::compare` meets its contract.
use Rattle.std.proofs.lemmas.Result.{err_from_is_err_and}
use Rattle.rows.specs.Formats.{format_of}
use Rattle.sort_compare.proofs.Compares.{call-refuses, call-orders}
use Rattle.sort_compare.proofs.compare.compare.Goals as goal

pub returns-in_err-o : goal.returns-in_err-o
returns-in_err-o c =
    let a = c.args in
    let p = err_from_is_err_and c.from_residual.result c.from_residual.ensures.1 in
    rw (p.1, p.2) (call-refuses a.first.now a.second.now (format_of a.f) a.a.now a.b.now c.in_err-o.field-0.0 c.in_err-o.ensures)

pub returns : goal.returns
returns c =
    let a = c.args in
    call-orders a.first.now a.second.now (format_of a.f) a.a.now a.b.now c.in_ok-o.o c.in_ok-o.ensures c.clear.ensures c.clear-2.ensures
