-- `trial::evaluate`: the row reached leads to the matrix's value. Each jump leads forward.
use Rattle.std.proofs.Common.{ℕ, ◌+◌, ◌-◌, ◌≤◌, List, length}
use Rattle.formula.specs.Truth.{Assignment}
use Rattle.sheet.specs.Format.{Row}
use Rattle.sheet.specs.Sheet.{trees, root}
use Rattle.rows.specs.Formulas.{node_rows_in}
use Rattle.jumps.specs.Jumps.{value_by, signed, next, Decides}
use Rattle.trial.specs.Inner.Turns.{values}
use Rattle.trial.proofs.evaluate.Given as goal

-- row i leads to the matrix's value
abbrev pub Going : List Row → List ℕ → List ℕ → Assignment → ℕ → Type 0
Going R high low ρ i = Decides (length R) (next R high low (signed ρ)) (value_by (root (trees R)) (signed ρ)) i

abbrev pub invariant-loop-i : goal.invariant-loop-i
invariant-loop-i l = (l.i ≤ l.s.nodes + 1) × Going (node_rows_in l.s l.sheet) l.high l.low (values l.assignment) l.i

abbrev pub decreases-loop-i : goal.decreases-loop-i
decreases-loop-i l = l.s.nodes + 2 - l.i
