-- `jumps::wire`: the rows before i have their parents and their targets.
use Rattle.rows.specs.Formulas.{node_rows_in}
use Rattle.jumps.specs.Jumps.{Parents, Targets}
use Rattle.jumps.proofs.wire.Given as goal

abbrev pub invariant-loop-i : goal.invariant-loop-i
invariant-loop-i l =
    record { known : Parents l.ends l.parents l.i; targets : Targets (node_rows_in l.s l.sheet) l.ends l.high l.low l.i }
