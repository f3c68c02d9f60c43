-- `pairs::count_left`: the rows from row i on are counted.
use Rattle.std.proofs.Common.{◌≡◌, ◌-◌, ◌≤◌, length, drop}
use Rattle.formula.specs.Strategy.{winner, left}
use Rattle.rows.specs.Formulas.{prefix_in}
use Rattle.pairs.proofs.count_left.Given as goal

abbrev pub invariant-loop-i : goal.invariant-loop-i
invariant-loop-i l = (l.n ≤ l.s.variables - l.i) × (l.n ≡ length (left (winner l.exists) (drop l.i (prefix_in l.s l.b))))
