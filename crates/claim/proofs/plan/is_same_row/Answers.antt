-- `claim::plan::is_same_row` meets its contract.
use borrow.Author.Tests.{not-true, not-false}
use Rattle.prefixes.specs.Places.{binding_in}
use Rattle.claim.proofs.Deciding.{rows_differ, rows_agree}
use Rattle.claim.proofs.plan.is_same_row.Goals as goal

pub returns-then-is_existential : goal.returns-then-is_existential
returns-then-is_existential c =
    rows_differ (binding_in c.args.s c.args.b.now c.args.i) (binding_in c.args.t c.args.d.now c.args.i) c.is_existential.ensures
    c.is_existential-2.ensures (not-true _ c.if-is_existential.true)

pub returns : goal.returns
returns c =
    rows_agree (binding_in c.args.s c.args.b.now c.args.i) (binding_in c.args.t c.args.d.now c.args.i) c.is_existential.ensures
    c.is_existential-2.ensures (not-false _ c.if-is_existential.false) c.bound_at.ensures.0 c.bound_at-2.ensures.0
