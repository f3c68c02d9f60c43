-- `rows::write::seal` meets its contract: the arguments moved to the kinds, zeros behind them, and the two sizes written.
use Rattle.std.proofs.Common.{rules}
use Rattle.rows.proofs.Sealing.{all_bytes, sealed as sealed-rows}
use Rattle.rows.proofs.Flat.{rows_in as Flat-rows}
use Rattle.rows.specs.Layouts.{rows_in, sealed}
use Rattle.rows.proofs.Layouts.{room_of}
use Rattle.rows.proofs.write.seal.Goals as goal

pub returns-clause-b_after : goal.returns-clause-b_after
unfolding sealed rows_in Flat-rows
returns-clause-b_after c =
    let e = c.width-w.ensures.0 in
    sealed-rows c.args.b.now (room_of c.requires.0) (all_bytes c.args.b.now (λ i. search rules)) c.requires.1 _ _
    (rw e at c.move_down.ensures) (rw e at c.clear.ensures) c.put_number.ensures (rw e at c.put_number-2.ensures)
