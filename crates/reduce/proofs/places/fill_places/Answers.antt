-- `reduce::places::fill_places` meets its contract.
use Rattle.std.proofs.Common.{arith}
use Rattle.reduce.proofs.Table.{few_here, filling_none, filling_row, filling_all}
use Rattle.reduce.proofs.places.fill_places.Goals as goal

pub loop-i-init : goal.loop-i-init
loop-i-init c = filling_none c.args.b.now c.requires.0 c.requires.1

pub bounds-places-bound_at : goal.bounds-places-bound_at
bounds-places-bound_at c =
    omega (arith, few_here c.args.b.now c.requires.0 _ (omega (arith, c.loop-i-test.true)) c.bound_at.ensures.0, c.loop-i.invariant.size)

pub loop-i-preserved : goal.loop-i-preserved
loop-i-preserved c = filling_row c.args.b.now c.requires.0 (omega arith) c.bound_at.ensures.0 c.loop-i.invariant

pub returns : goal.returns
returns c = filling_all c.args.b.now c.requires.0 (omega arith) c.loop-i.invariant
