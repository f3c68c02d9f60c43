-- The goals of `join::join_checked`. Assumes nothing.
use mathlib.Core.Bool.{not}
use Rattle.std.proofs.Common.{arith, ap}
use Rattle.join.proofs.Answering.{many_call, count-call, bad_call, joinable, joined-call}
use Rattle.join.proofs.join_checked.Goals as goal

pub returns-then-s-k : goal.returns-then-s-k
returns-then-s-k c = many_call c.requires c.args.k c.args.answers.now c.if-s-k.true

pub returns-then-not-is_power : goal.returns-then-not-is_power
returns-then-not-is_power c =
    count-call c.requires c.args.k c.args.answers.now (omega (arith, c.if-s-k.false)) c.is_power.ensures (ap not c.if-not-is_power.true)

pub returns-then-not-are_answers : goal.returns-then-not-are_answers
returns-then-not-are_answers c =
    bad_call c.requires c.args.k c.args.answers.now (omega (arith, c.if-s-k.false)) c.is_power.ensures (ap not c.if-not-is_power.false)
    c.are_answers.ensures (ap not c.if-not-are_answers.true)

pub gather-requires : goal.gather-requires
gather-requires c =
    joinable c.requires c.args.k c.args.answers.now (omega (arith, c.if-s-k.false)) c.is_power.ensures (ap not c.if-not-is_power.false)
    c.are_answers.ensures (ap not c.if-not-are_answers.false)

pub returns : goal.returns
returns c =
    joined-call c.requires c.args.k c.args.answers.now (omega (arith, c.if-s-k.false)) c.is_power.ensures (ap not c.if-not-is_power.false)
    c.are_answers.ensures (ap not c.if-not-are_answers.false) c.gather.ensures
