-- `rows::quad_at` meets its contract: the second pair counts 65,536 of the first.
use Rattle.std.proofs.Common.{arith}
use Rattle.rows.proofs.Digits.{four_bytes}
use Rattle.rows.proofs.quad_at.Goals as goal

pub returns : goal.returns
returns c =
    (four_bytes c.args.b.now c.args.at c.requires c.pair_at.ensures.0 c.pair_at-2.ensures.0, omega (arith, c.pair_at.ensures.1, c.pair_at-2.ensures.1))
