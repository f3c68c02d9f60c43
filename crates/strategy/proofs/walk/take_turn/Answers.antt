-- `strategy::walk::take_turn` meets its contract. Assumes nothing.
use Rattle.std.proofs.Common.{sym, refl}
use Rattle.solve.proofs.Holding.{readable}
use Rattle.strategy.proofs.walk.take_turn.Goals as goal

pub decide-requires : goal.decide-requires
decide-requires c = readable c.requires.0.run.held
