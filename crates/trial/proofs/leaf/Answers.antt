-- `trial::leaf` meets its contract.
use Rattle.trial.proofs.Turns.{turns_leaf}
use Rattle.trial.proofs.leaf.Goals as goal

pub returns : goal.returns
returns c = turns_leaf c.args.s c.args.sheet.now c.requires.playable.readable c.args.assignment.now c.evaluate.result c.evaluate.ensures
