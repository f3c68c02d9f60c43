-- `force::moves::write_behind` meets its contract.
use borrow.Author.Rules.{rules}
use native.Mathlib.Omega.{arith}
use Rattle.raw.proofs.Raws.{raw-laid}
use Rattle.force.proofs.Rows.{behind-rows}
use Rattle.force.proofs.moves.write_behind.Goals as goal

pub returns-clause-raw : goal.returns-clause-raw
returns-clause-raw c =
    let done = c.write_copy.ensures in
    raw-laid (omega (arith, done.value, c.requires.1)) done.laid (search rules)
    (behind-rows c.args.s c.args.b.now c.requires.0 c.args.table.now c.args.k c.requires.1)
