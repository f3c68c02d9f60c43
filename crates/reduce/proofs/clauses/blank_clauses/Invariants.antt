-- `reduce::clauses::blank_clauses` meets its contract: the clauses passed are blanked. Assumes nothing.
use Prim.Native.Nat.{◌-◌}
use Rattle.reduce.proofs.ClauseTurns.{Reducing}
use Rattle.reduce.specs.Inner.Clauses.{blanked}
use Rattle.rows.specs.Formulas.{prefix_in, formula_in}
use Rattle.rows.specs.Layouts.{rows_in}
use Rattle.sheet.specs.Sheet.{formula_rows}
use lib.ListN.{length}
use mathlib.Core.Path.{◌≡◌}
use Rattle.reduce.proofs.clauses.blank_clauses.Given as goal

abbrev pub invariant-loop-r : goal.invariant-loop-r
invariant-loop-r l =
    Reducing (prefix_in l.s l.b) (rows_in l.s l.b) (formula_rows (blanked (formula_in l.s l.b))) (rows_in l.s l.out) l.r × (length l.out ≡ length l.initial.out)

abbrev pub decreases-loop-r : goal.decreases-loop-r
decreases-loop-r l = l.end - l.r
