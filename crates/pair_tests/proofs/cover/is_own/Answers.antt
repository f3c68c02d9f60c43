-- `pair_tests::cover::is_own` meets its contract.
use Rattle.pair_tests.proofs.Marking.{own_here}
use Rattle.pair_tests.proofs.cover.is_own.Goals as goal

pub returns : goal.returns
returns c = own_here c.args.b.now c.requires.0 c.requires.1 c.place_at.ensures.0 c.args.exists c.is_existential.ensures
