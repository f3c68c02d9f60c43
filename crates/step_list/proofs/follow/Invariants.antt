-- The loop of `step_list::follow`: the turns of the records passed are taken. Assumes nothing.
use Rattle.rows.specs.Formats.{format_of}
use Rattle.step_list.proofs.Walking.{Walked}
use Rattle.step_list.proofs.follow.Given as goal

abbrev pub invariant-loop-step : goal.invariant-loop-step
invariant-loop-step l = Walked (format_of l.f) l.fn.steps l.fn.first l.fn.second l.fn.held l.step-index l.steps l.first l.second l.kept
