-- `response::plan::plan_variable` meets its contract.
use Rattle.std.proofs.Common.{◌≡◌, false, sym, subst, arith}
use lib.ListN.{length-replicate}
use Rattle.std.proofs.Math.Option.{some}
use Rattle.formula.specs.Settle.{may_settle}
use Rattle.rows.specs.Formulas.{formula_in}
use Rattle.checking.proofs.CheckedSheets.{sheet_readable}
use Rattle.polarity.proofs.Marks.{unmarked, numbered_covers}
use Rattle.elimination.proofs.Admitting.{sheet-numbered}
use Rattle.response.specs.Inner.ResponsePlan.{ResponsePlans}
use Rattle.response.proofs.Deciding.{value_here, value_there, constant_planned}
use Rattle.response.proofs.plan.plan_variable.Goals as goal

pub fill_signs-requires : goal.fill_signs-requires
fill_signs-requires c =
    let sheet = c.requires.0.sheet in
    (sheet_readable sheet, unmarked 4100, numbered_covers (sheet-numbered sheet) (omega (arith, length-replicate 4100 false)))

pub value_at-requires : goal.value_at-requires
value_at-requires c = (sheet_readable c.requires.0.sheet, c.requires.0.named.inside, c.fill_signs.ensures)

pub plan_unsettled-requires : goal.plan_unsettled-requires
plan_unsettled-requires c =
    record { admitted = c.requires; sheet_value = value_there c.requires.0 c.args.room c.in_default.ensures }

pub returns : goal.returns
returns c =
    let a = c.args in
    let b = a.sheet.now in
    let e : may_settle a.z.variable (formula_in a.s b) ≡ some c.in-Some.value = value_here c.requires.0 a.room c.in-Some.ensures in
    subst (ResponsePlans a.s.format b a.z.variable a.room a.cuts.now) (sym c.in_room.ensures)
    (constant_planned c.requires.0 a.room c.in-Some.value e a.cuts.now)
