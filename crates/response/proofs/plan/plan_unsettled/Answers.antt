-- `response::plan::plan_unsettled` meets its contract: 11 and 13 in this order.
use Rattle.std.proofs.Common.{◌≡◌, sym, subst, subst₂, arith}
use Rattle.std.proofs.Math.Option.{none}
use Rattle.std.proofs.lemmas.Result.{err_from_is_err_and}
use Rattle.formula.specs.Settle.{may_settle}
use Rattle.sheet.specs.Sheet.{formula}
use Rattle.rows.specs.Formats.{format_of}
use Rattle.rows.specs.Layouts.{format_in}
use Rattle.response.specs.Inner.ResponsePlan.{ResponsePlans}
use Rattle.response.proofs.Deciding.{refused_quote, planned_few, copy_planned}
use Rattle.response.proofs.plan.plan_unsettled.Goals as goal
use Rattle.response.proofs.plan.plan_unsettled.Goals.{In_ok-t}

unsettled : (c : In_ok-t) → let a = c.args in may_settle a.z.variable (formula (format_in c.in_ok-t.t) a.sheet.now) ≡ none
unsettled c =
    let a = c.args in
    subst (λ f. may_settle a.z.variable (formula (format_of f) a.sheet.now) ≡ none) (sym c.in_ok-t.ensures.0) c.requires.sheet_value

pub in_room-requires : goal.in_room-requires
in_room-requires c =
    let d = c.in_ok-t.ensures.1 in
    let few = planned_few d c.args.room (unsettled (goal.at.in_room-requires c).In_ok-t) in
    (omega (arith, d.named.inside), d.from.readable.few_variables, few)

pub returns-in_err-t : goal.returns-in_err-t
returns-in_err-t c =
    let a = c.args in
    let p = err_from_is_err_and c.from_residual.result c.from_residual.ensures.1 in
    rw (p.1, p.2) (refused_quote (format_in a.s) a.sheet.now a.z.variable a.room c.requires.sheet_value c.in_err-t.ensures)

pub returns : goal.returns
returns c =
    let a = c.args in
    let is = c.in_ok-t.ensures in
    subst₂ (λ f r. ResponsePlans f a.sheet.now a.z.variable a.room c.plan_admitted.new.cuts r) is.0 (sym c.in_room.ensures)
    (copy_planned is.1 a.room (unsettled (goal.at.returns c).In_ok-t))
