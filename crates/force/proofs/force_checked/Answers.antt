-- `force::force_checked` meets its contract: each test in turn, and then both runs' outcome.
use Rattle.std.proofs.Common.{◌∙◌, ap, not, arith}
use Rattle.sheet.specs.Trace.{room}
use Rattle.solve.proofs.Answering.{all_zeros}
use Rattle.force.specs.Inner.Judging.{Judgeable}
use Rattle.force.proofs.Judging.{readable}
use Rattle.force.proofs.Answering.{bad_call, many_call, short_call, answered-call}
use Rattle.force.proofs.force_checked.Goals as goal

pub returns-then-not-are_values : goal.returns-then-not-are_values
returns-then-not-are_values c =
    bad_call c.requires c.args.values.now c.args.first.now c.args.second.now c.are_values.ensures (ap not c.if-not-are_values.true)

pub returns-then-s-values : goal.returns-then-s-values
returns-then-s-values c =
    many_call c.requires c.args.values.now c.args.first.now c.args.second.now c.are_values.ensures (ap not c.if-not-are_values.false)
    (omega (arith, c.if-s-values.true))

pub returns-then-shorter-sheet : goal.returns-then-shorter-sheet
returns-then-shorter-sheet c =
    short_call c.requires c.args.values.now c.args.first.now c.args.second.now c.are_values.ensures (ap not c.if-not-are_values.false)
    (omega (arith, c.if-s-values.false)) (omega (arith, c.shorter.ensures, c.if-shorter-sheet.true))

pub turn_at-turn-requires : goal.turn_at-turn-requires
turn_at-turn-requires c =
    let j : Judgeable c.args.s c.args.sheet.now c.args.values.now (room c.args.first.now c.args.second.now)
    = record { checked = c.requires; fewer = omega (arith, c.if-s-values.false); has_room = omega (arith, c.shorter.ensures, c.if-shorter-sheet.false) } in
    (readable j, j.fewer)

pub try_both-outcome-requires : goal.try_both-outcome-requires
try_both-outcome-requires c =
    record {
      checked = c.requires;
      fewer = omega (arith, c.if-s-values.false);
      has_room = omega (arith, c.shorter.ensures, c.if-shorter-sheet.false);
    }

pub returns : goal.returns
returns c =
    answered-call c.requires c.args.values.now c.args.first.now c.args.second.now c.are_values.ensures (ap not c.if-not-are_values.false)
    (omega (arith, c.if-s-values.false)) (omega (arith, c.shorter.ensures, c.if-shorter-sheet.false)) c.turn_at-turn.ensures
    c.try_both-outcome.ensures (c.clear.ensures ∙ all_zeros c.try_both-outcome.new.first c.try_both-outcome.auto.first)
    (c.clear-2.ensures ∙ all_zeros c.try_both-outcome.new.second c.try_both-outcome.auto.second)
