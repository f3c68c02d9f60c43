-- `prefixes::find_variable` meets its contract: the first row whose variable is x is its place.
use Rattle.std.proofs.Common.{arith}
use Rattle.prefixes.proofs.Walks.{find_found, find_on, find_none}
use Rattle.prefixes.proofs.find_variable.Goals as goal

pub returns-then-bound_at-x-clause-row : goal.returns-then-bound_at-x-clause-row
returns-then-bound_at-x-clause-row c =
    let l = c.loop-i in
    let inside = c.loop-i-test.true in
    (find_found c.args.b.now c.requires c.args.x l.i inside l.invariant c.bound_at.ensures.0 c.if-bound_at-x.true, inside)

pub loop-i-preserved : goal.loop-i-preserved
loop-i-preserved c =
    let l = c.loop-i in
    find_on c.args.b.now c.requires c.args.x l.i c.loop-i-test.true (omega arith) l.invariant c.bound_at.ensures.0 c.if-bound_at-x.false

pub returns-clause-not_in_prefix : goal.returns-clause-not_in_prefix
returns-clause-not_in_prefix c = find_none c.args.b.now c.requires c.args.x c.loop-i.i (omega arith) c.loop-i.invariant
