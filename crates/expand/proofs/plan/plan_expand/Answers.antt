-- `expand::plan::plan_expand` meets its contract.
use Rattle.std.proofs.Common.{subst₂}
use Rattle.std.proofs.lemmas.Result.{err_from_is_err_and}
use Rattle.rows.specs.Formats.{format_of}
use Rattle.expand.specs.Inner.ExpandPlan.{ExpandPlans}
use Rattle.expand.proofs.Deciding.{refused_before}
use Rattle.expand.proofs.plan.plan_expand.Goals as goal

pub plan_admitted-requires : goal.plan_admitted-requires
plan_admitted-requires c = (c.in_ok-s.ensures.2, c.requires)

pub returns-in_err-s : goal.returns-in_err-s
returns-in_err-s c =
    let a = c.args in
    let p = err_from_is_err_and c.from_residual.result c.from_residual.ensures.1 in
    rw (p.1, p.2) (refused_before (format_of a.f) a.sheet.now a.x c.in_err-s.ensures)

pub returns : goal.returns
returns c =
    let a = c.args in
    let is = c.in_ok-s.ensures in
    subst₂ (λ f y. ExpandPlans f a.sheet.now y c.plan_admitted.new.cuts c.plan_admitted.result) is.0 is.1 c.plan_admitted.ensures
