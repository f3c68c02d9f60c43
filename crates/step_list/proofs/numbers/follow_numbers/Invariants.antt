-- `step_list::numbers::follow_numbers`: before each part, the answers of all records before it are written, and the sheet held
-- then stands in the first buffer. Assumes nothing.
use Rattle.std.proofs.Common.{length, ◌≤◌, ◌-◌}
use Rattle.rows.specs.Formats.{format_of}
use Rattle.step_list.proofs.Arrays.{Filled}
use Rattle.step_list.proofs.numbers.follow_numbers.Given as goal

abbrev pub invariant-loop-at : goal.invariant-loop-at
invariant-loop-at l =
    (l.at ≤ l.count) × Filled (format_of l.f) l.operations l.variables l.fn.numbers l.fn.values l.initial.first l.fn.second (length l.sheet) l.at l.numbers l.values l.first l.second l.held

abbrev pub decreases-loop-at : goal.decreases-loop-at
decreases-loop-at l = l.count - l.at
