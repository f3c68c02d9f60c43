-- `words::literal::negated` meets its contract.
use Rattle.words.proofs.Signed.{too_large, minus_large, minus_read}
use Rattle.words.proofs.literal.negated.Goals as goal

pub returns-in-Ok : goal.returns-in-Ok
returns-in-Ok c = minus_read c.args.magnitude c.in-Ok.ensures.0 c.in-Ok.ensures.1

pub returns-in-Err : goal.returns-in-Err
returns-in-Err c = minus_large c.args.magnitude (too_large c.in-Err.ensures)
