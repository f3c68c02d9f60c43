-- `choice::settle::choose_to` meets its contract: a lower number was chosen, or row i's variable may not be settled, or it is the lowest.
use Rattle.std.proofs.Common.{sym}
use Rattle.choice.proofs.Settling.{settle_lower, settle_none, settle_one}
use Rattle.choice.proofs.settle.choose_to.Goals as goal

pub returns-then-is_lower : goal.returns-then-is_lower
returns-then-is_lower c =
    let r = c.requires.readable in
    settle_lower c.args.b.now r.0 r.1 c.args.i c.args.best c.bound_at-x.result r.3 c.bound_at-x.ensures.0 (sym c.if-is_lower.ensures)
    c.requires.settles_before

pub returns-in_default : goal.returns-in_default
returns-in_default c =
    let r = c.requires.readable in
    settle_none c.args.b.now r.0 r.1 c.args.i c.args.best r.3 c.in_default.ensures c.requires.settles_before

pub returns : goal.returns
returns c =
    let r = c.requires.readable in
    settle_one c.args.b.now r.0 r.1 c.args.i c.args.best c.bound_at-x.result c.in-Some.value r.3 c.in-Some.ensures c.bound_at-x.ensures.0
    (sym c.if-is_lower.ensures) c.requires.settles_before
