-- `rows::bytes::move_down`: the bytes passed are moved.
use Rattle.std.proofs.Common.{drop}
use Rattle.rows.proofs.Pasting.{Pasted}
use Rattle.rows.proofs.bytes.move_down.Given as goal

abbrev pub invariant-loop-i : goal.invariant-loop-i
invariant-loop-i l = Pasted (drop l.from l.initial.b) l.to l.count l.initial.b l.b l.i
