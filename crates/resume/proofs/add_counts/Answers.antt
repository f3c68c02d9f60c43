-- `resume::add_counts` meets its contract. Assumes nothing.
use Rattle.std.proofs.Common.{ap, sym}
use Rattle.sheet.specs.Resume.{add_to_answer}
use Rattle.solve.specs.Answers.{solved_answer}
use Rattle.resume.proofs.add_counts.Goals as goal

pub returns-in-Stopped : goal.returns-in-Stopped
unfolding add_to_answer
returns-in-Stopped c = ap (λ r. add_to_answer c.args.c.settled c.args.c.expanded (solved_answer r)) (sym c.in-Stopped.is)

pub returns-in-Ended : goal.returns-in-Ended
unfolding add_to_answer
returns-in-Ended c = ap (λ r. add_to_answer c.args.c.settled c.args.c.expanded (solved_answer r)) (sym c.in-Ended.is)
