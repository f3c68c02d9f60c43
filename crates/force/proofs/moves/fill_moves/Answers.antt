-- `force::moves::fill_moves` meets its contract: a value is put in a turn, and the one tried behind them.
use Rattle.std.proofs.Common.{arith}
use Rattle.rows.specs.Formulas.{prefix_in}
use Rattle.rows.proofs.Formulas.{length_prefix}
use Rattle.force.proofs.Filling.{filled_next, filled-all}
use Rattle.force.proofs.moves.fill_moves.Goals as goal

pub loop-i-preserved : goal.loop-i-preserved
loop-i-preserved c =
    filled_next (prefix_in c.args.s c.args.b.now) c.args.values.now c.args.tried
    (omega (arith, length_prefix c.args.b.now c.requires.0, c.requires.2)) c.loop-i-test.true c.bound_at.ensures.0 c.put.ensures
    c.loop-i.invariant

pub returns : goal.returns
returns c =
    filled-all (prefix_in c.args.s c.args.b.now) c.args.values.now c.args.tried
    (omega (arith, length_prefix c.args.b.now c.requires.0, c.requires.2)) c.loop-i-test.false c.bound_at-2.ensures.0 c.put-2.ensures
    c.loop-i.invariant
