-- `solve::step::fetch` meets its contract.
use Rattle.solve.proofs.Fetching.{cleared}
use Rattle.solve.proofs.step.fetch.Goals as goal

pub returns : goal.returns
returns c =
    cleared c.args.second.now c.args.first.now c.args.bytes c.requires.in_second c.requires.in_first c.copy_front.ensures
    c.clear.ensures
