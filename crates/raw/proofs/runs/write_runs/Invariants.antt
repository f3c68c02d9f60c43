-- `raw::runs::write_runs`: the runs before a cut are written.
use Rattle.std.proofs.Common.{◌*◌}
use Rattle.raw.proofs.RunTurns.{Running}
use Rattle.raw.proofs.runs.write_runs.Given as goal

abbrev pub invariant-loop-i : goal.invariant-loop-i
invariant-loop-i l = Running l.s l.b l.table l.cuts l.t l.initial.out l.initial.at l.out l.at (2 * l.i)
