-- `claim::write::write_pair` meets its contract.
use Rattle.claim.proofs.Turns.{pair_laid}
use Rattle.claim.proofs.write.write_pair.Goals as goal

pub returns : goal.returns
returns c =
    pair_laid c.argument_at-x.ensures.0 c.write_head-first.ensures c.write_negated-second.ensures c.write_head-last.ensures c.write_rows.ensures.laid
