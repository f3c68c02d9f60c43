-- `solve::go` meets its contract: each step taken is the run's next one.
use Rattle.std.proofs.Common.{refl, subst, ◌∙◌, arith}
use Rattle.solve.specs.Inner.Running.{Stepped}
use Rattle.solve.proofs.Turning.{turn_first, turn-next, turn_ended, turn_stopped}
use Rattle.solve.proofs.go.Goals as goal

pub loop-verdict-init : goal.loop-verdict-init
loop-verdict-init c = (turn_first c.requires.held c.requires.few, refl, refl)

pub take_step-requires : goal.take_step-requires
take_step-requires c =
    let p = c.requires in
    let u = c.loop-verdict.invariant in (
      record {
        held = u.0.held;
        first_room = omega (arith, u.0.same_length, p.first_room);
        second_room = omega (arith, u.1, p.second_room);
        few = u.0.few;
      },
      omega (arith, u.2),
    )

pub returns-in-Ended : goal.returns-in-Ended
returns-in-Ended c =
    let l = c.loop-verdict in
    turn_ended l.invariant.0 c.in-Ended.verdict
    (subst (Stepped c.args.room l.s l.first l.second c.take_step.new.first c.take_step.new.second) c.in-Ended.is c.take_step.ensures)

pub returns-in-Stopped : goal.returns-in-Stopped
returns-in-Stopped c =
    let l = c.loop-verdict in
    turn_stopped l.invariant.0 c.in-Stopped.x
    (subst (Stepped c.args.room l.s l.first l.second c.take_step.new.first c.take_step.new.second) c.in-Stopped.is c.take_step.ensures)

pub loop-verdict-smaller : goal.loop-verdict-smaller
loop-verdict-smaller c =
    let l = c.loop-verdict in
    omega
    (arith, (subst (Stepped c.args.room l.s l.first l.second c.take_step.new.first c.take_step.new.second) c.in-Next.is c.take_step.ensures).2)

pub loop-verdict-preserved : goal.loop-verdict-preserved
loop-verdict-preserved c =
    let l = c.loop-verdict in (
      turn-next l.invariant.0 l.second
          (subst (Stepped c.args.room l.s l.first l.second c.take_step.new.first c.take_step.new.second) c.in-Next.is c.take_step.ensures)
          c.take_step.auto.first,
      c.take_step.auto.second ∙ l.invariant.1,
      c.take_step.auto.ends ∙ l.invariant.2,
    )
