-- `certify::initial::evaluate`: the row reached leads to the matrix's value, and each jump leads forward.
use Rattle.std.proofs.Common.{◌+◌, ◌-◌, ◌≤◌, length}
use Rattle.sheet.specs.Sheet.{trees, root}
use Rattle.rows.specs.Formulas.{node_rows_in}
use Rattle.jumps.specs.Jumps.{value_by, next, Decides}
use Rattle.certify.specs.Inner.Initial.{valued}
use Rattle.certify.proofs.initial.evaluate.Given as goal

abbrev pub invariant-loop-i : goal.invariant-loop-i
invariant-loop-i l =
    let rows = node_rows_in l.q.layout l.sheet in
    let values = valued l.q.verdict l.marks in
    (l.i ≤ l.n + 1) × Decides (length rows) (next rows l.high l.low values) (value_by (root (trees rows)) values) l.i

abbrev pub decreases-loop-i : goal.decreases-loop-i
decreases-loop-i l = l.n + 2 - l.i
