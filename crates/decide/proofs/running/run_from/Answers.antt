-- `decide::running::run_from` meets its contract. Assumes nothing.
use Rattle.std.proofs.Common.{ap}
use Rattle.solve.specs.Answers.{solved_answer}
use Rattle.decide.proofs.Reaching.{run_ended, run-stopped}
use Rattle.decide.proofs.running.run_from.Goals as goal

pub returns-in-Ended : goal.returns-in-Ended
returns-in-Ended c = run_ended c.requires c.run_raw.ensures (ap solved_answer c.in-Ended.is)

pub returns-in-Stopped : goal.returns-in-Stopped
returns-in-Stopped c = run-stopped c.requires c.run_raw.ensures c.layout_at.ensures (ap solved_answer c.in-Stopped.is)
