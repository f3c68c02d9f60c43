-- The goals of `join::weigh_towards`: the definition of `weigh`, case by case. Assumes nothing.
use Rattle.std.proofs.Common.{refl}
use Rattle.formula.specs.Join.{weigh}
use Rattle.join.proofs.Joining.{stopped, left-open}
use Rattle.join.proofs.weigh_towards.Goals as goal

pub returns-then-x : goal.returns-then-x
unfolding weigh
returns-then-x c = rw (c.in-Some-Some.is-0, c.in-Some-Some.is-1, c.if-stop.true, c.if-x.true) refl

pub returns-else-x : goal.returns-else-x
unfolding weigh
returns-else-x c = rw (c.in-Some-Some.is-0, c.in-Some-Some.is-1, c.if-stop.true, c.if-x.false) refl

pub returns-then-x-2 : goal.returns-then-x-2
unfolding weigh
returns-then-x-2 c = rw (c.in-Some-Some.is-0, c.in-Some-Some.is-1, c.if-stop.false, c.if-x-2.true) refl

pub returns-else-x-2 : goal.returns-else-x-2
unfolding weigh
returns-else-x-2 c = rw (c.in-Some-Some.is-0, c.in-Some-Some.is-1, c.if-stop.false, c.if-x-2.false) refl

pub returns-then-x-stop : goal.returns-then-x-stop
unfolding weigh
returns-then-x-stop c = rw (c.in-Some-None.is-0, c.in-Some-None.is-1) (stopped c.args.stop c.in-Some-None.x c.if-x-stop.true)

pub returns-else-x-stop : goal.returns-else-x-stop
unfolding weigh
returns-else-x-stop c = rw (c.in-Some-None.is-0, c.in-Some-None.is-1) (left-open c.args.stop c.in-Some-None.x c.if-x-stop.false)

pub returns-then-y-stop : goal.returns-then-y-stop
unfolding weigh
returns-then-y-stop c = rw (c.in-None-Some.is-0, c.in-None-Some.is-1) (stopped c.args.stop c.in-None-Some.y c.if-y-stop.true)

pub returns-else-y-stop : goal.returns-else-y-stop
unfolding weigh
returns-else-y-stop c = rw (c.in-None-Some.is-0, c.in-None-Some.is-1) (left-open c.args.stop c.in-None-Some.y c.if-y-stop.false)

pub returns-in-None-None : goal.returns-in-None-None
unfolding weigh
returns-in-None-None c = rw (c.in-None-None.is-0, c.in-None-None.is-1) refl
