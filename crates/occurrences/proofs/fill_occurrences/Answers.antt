-- `occurrences::fill_occurrences` meets its contract.
use Rattle.occurrences.proofs.TableTurns.{occurrences_filled}
use Rattle.occurrences.proofs.fill_occurrences.Goals as goal

pub returns : goal.returns
returns c = occurrences_filled c.args.b.now c.requires.0 c.link.ensures.0 c.link.ensures.1 c.mark.ensures.0 c.mark.ensures.1
