-- `rows::pair_at` meets its contract: the second byte counts 256 of the first.
use Rattle.std.proofs.Common.{arith}
use Rattle.rows.proofs.Digits.{two_bytes}
use Rattle.rows.proofs.pair_at.Goals as goal

pub returns : goal.returns
returns c =
    (two_bytes c.args.b.now c.args.at c.requires c.from_byte.ensures.0 c.from_byte-2.ensures.0, omega (arith, c.from_byte.ensures.1, c.from_byte-2.ensures.1))
