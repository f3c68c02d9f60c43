-- `trial::semantic_tree` meets its contract.
use Rattle.trial.proofs.Turns.{turns_first}
use Rattle.trial.proofs.semantic_tree.Goals as goal

pub returns : goal.returns
returns c = turns_first c.args.s c.args.sheet.now 1025 c.existential.result c.existential.ensures.outcome
