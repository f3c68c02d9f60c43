-- `conversion::convert_rows`: the rows before row r are written.
use Rattle.conversion.proofs.RowTurns.{Copied}
use Rattle.conversion.proofs.convert_rows.Given as goal

abbrev pub invariant-loop-r : goal.invariant-loop-r
invariant-loop-r l = Copied l.s l.sheet l.t l.initial.out l.out l.r
