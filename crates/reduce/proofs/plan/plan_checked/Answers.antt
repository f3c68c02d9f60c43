-- `reduce::plan::plan_checked` meets its contract: 9, 20 and 13 in this order.
use Rattle.std.proofs.Common.{arith}
use Rattle.checking.proofs.CheckedSheets.{sheet_readable}
use Rattle.reduce.proofs.Deciding.{not_tidy, not-clauses, no_room, planned}
use Rattle.reduce.proofs.plan.plan_checked.Goals as goal

pub fill_ends-requires : goal.fill_ends-requires
fill_ends-requires c =
    let ok = sheet_readable c.requires in
    (ok, omega (arith, ok.few_nodes))

pub overflow_add-result : goal.overflow_add-result
overflow_add-result c =
    let ok = sheet_readable c.requires in
    omega (arith, ok.few_variables, ok.few_nodes)

pub returns-then-fault-s : goal.returns-then-fault-s
returns-then-fault-s c = not_tidy c.requires c.args.room c.first_fault-fault.ensures c.if-fault-s.true

pub returns-then-has_inner_and : goal.returns-then-has_inner_and
returns-then-has_inner_and c =
    not-clauses c.requires c.args.room c.first_fault-fault.ensures c.if-fault-s.false c.has_inner_and.ensures c.if-has_inner_and.true

pub returns-then-room-sheet : goal.returns-then-room-sheet
returns-then-room-sheet c =
    no_room c.requires c.args.room c.first_fault-fault.ensures c.if-fault-s.false c.has_inner_and.ensures c.if-has_inner_and.false
    c.if-room-sheet.true

pub returns : goal.returns
returns c =
    planned c.requires c.args.room c.first_fault-fault.ensures c.if-fault-s.false c.has_inner_and.ensures c.if-has_inner_and.false
    c.if-room-sheet.false
