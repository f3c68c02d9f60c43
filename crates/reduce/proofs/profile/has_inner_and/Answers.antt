-- `reduce::profile::has_inner_and` meets its contract.
use Rattle.std.proofs.Common.{arith}
use Rattle.reduce.proofs.InnerAnd.{look_start, look-found, look-on, look_none}
use Rattle.reduce.proofs.profile.has_inner_and.Goals as goal

pub loop-r-init : goal.loop-r-init
loop-r-init c = look_start c.args.b.now c.requires

pub returns-then-kind_at-eq-AND : goal.returns-then-kind_at-eq-AND
returns-then-kind_at-eq-AND c =
    look-found c.args.b.now c.requires c.loop-r-test.true c.loop-r.invariant c.kind_at.ensures c.if-kind_at-eq-AND.true

pub loop-r-preserved : goal.loop-r-preserved
loop-r-preserved c =
    look-on c.args.b.now c.requires c.loop-r-test.true c.loop-r.invariant c.kind_at.ensures (omega arith) c.if-kind_at-eq-AND.false

pub returns : goal.returns
returns c = look_none c.args.b.now c.requires c.loop-r-test.false c.loop-r.invariant
