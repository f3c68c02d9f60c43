-- The goal of `certify::count_valid`. Assumes nothing.
use Rattle.rows.specs.Formulas.{formula_in}
use Rattle.certify.proofs.Steps.{valid-found}
use Rattle.certify.proofs.count_valid.Goals as goal

pub returns : goal.returns
unfolding formula_in
returns c =
    let a = c.args in
    valid-found a.heads.now a.codes.now a.verdict (formula_in a.s a.sheet.now) c.count_derived-steps.result c.first_unsettled.result
    c.count_derived-steps.ensures c.first_unsettled.ensures
