-- `solve::run` meets its contract: what the loop answers and leaves, and the second buffer cleared.
use Rattle.std.proofs.Common.{◌∙◌}
use Rattle.sheet.specs.Operations.{solving}
use Rattle.solve.specs.Inner.Running.{run_call}
use Rattle.solve.proofs.Answering.{all_zeros, left}
use Rattle.solve.proofs.run.Goals as goal

pub returns : goal.returns
unfolding run_call solving
returns c =
    let went = c.go-answer.ensures in
    left went.answers went.shows (c.clear.ensures ∙ all_zeros c.go-answer.new.second c.go-answer.auto.second)
