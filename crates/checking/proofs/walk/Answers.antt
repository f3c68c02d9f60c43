-- `checking::walk` meets its contract: what is left to pay at each row is what was to pay at the first.
use Rattle.std.proofs.Common.{◌≡◌, ◌+◌, arith}
use Rattle.rows.proofs.Layouts.{length-rows_in}
use Rattle.checking.proofs.Debt.{walk_none, walk_turn, walk_paid, walk_out}
use Rattle.checking.proofs.walk.Goals as goal

pub loop-row-init : goal.loop-row-init
loop-row-init c = walk_none _ _ (omega (arith, length-rows_in c.args.sheet.now c.requires.0.room))

pub returns-then-owed-eq0 : goal.returns-then-owed-eq0
returns-then-owed-eq0 c = walk_paid _ _ c.if-owed-eq0.true c.loop-row.invariant

pub loop-row-preserved : goal.loop-row-preserved
loop-row-preserved c =
    walk_turn _ _ (omega (arith, length-rows_in c.args.sheet.now c.requires.0.room)) c.if-owed-eq0.false c.children_at.ensures.0
    c.children_at.ensures.1 c.loop-row.invariant

pub returns : goal.returns
returns c =
    let end : c.loop-row.row ≡ c.args.s.variables + c.args.s.nodes = omega arith in
    rw (← end) (walk_out _ _ (omega (arith, length-rows_in c.args.sheet.now c.requires.0.room)) c.loop-row.invariant)
