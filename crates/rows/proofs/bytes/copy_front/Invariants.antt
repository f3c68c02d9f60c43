-- `rows::bytes::copy_front`: the bytes passed are copied.
use Rattle.std.proofs.Common.{length}
use Rattle.rows.proofs.Pasting.{Pasted}
use Rattle.rows.proofs.bytes.copy_front.Given as goal

abbrev pub invariant-loop-i : goal.invariant-loop-i
invariant-loop-i l = Pasted l.sheet 0 (length l.sheet) l.initial.out l.out l.i
