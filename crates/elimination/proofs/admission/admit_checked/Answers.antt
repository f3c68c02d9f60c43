-- `elimination::admission::admit_checked` meets its contract: 9 and 10 in this order.
use Rattle.std.proofs.Common.{refl, arith}
use Rattle.checking.proofs.CheckedSheets.{sheet_readable}
use Rattle.elimination.proofs.Admitting.{not_tidy, not-bound, admitted}
use Rattle.elimination.proofs.admission.admit_checked.Goals as goal

pub fill_ends-requires : goal.fill_ends-requires
fill_ends-requires c = let ok = sheet_readable c.requires.0 in (ok, omega (arith, ok.few_nodes, c.requires.1))

pub returns-then-fault-s : goal.returns-then-fault-s
returns-then-fault-s c = not_tidy c.requires.0 c.args.x c.first_fault-fault.ensures c.if-fault-s.true

pub returns-in_default : goal.returns-in_default
returns-in_default c =
    not-bound c.requires.0 c.args.x c.first_fault-fault.ensures c.if-fault-s.false c.in_default.ensures.not_in_prefix

pub returns : goal.returns
returns c =
    let at = c.in-Some.ensures.row in
    (refl, refl, admitted c.requires.0 c.args.x c.first_fault-fault.ensures c.if-fault-s.false at.0 at.1 c.fill_ends.ensures.indexed)
