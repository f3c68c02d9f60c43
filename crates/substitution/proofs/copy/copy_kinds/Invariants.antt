-- `substitution::copy::copy_kinds`: the rows passed have their new kinds.
use Rattle.std.proofs.Common.{◌-◌}
use Rattle.sheet.specs.Sheet.{row_kinds}
use Rattle.rows.specs.Layouts.{rows_in}
use Rattle.substitution.proofs.Lent.{Changed}
use Rattle.substitution.proofs.copy.copy_kinds.Given as goal

abbrev pub invariant-loop-r : goal.invariant-loop-r
invariant-loop-r l = Changed row_kinds (l.fn.changed.from - l.from) l.table (rows_in l.s l.b) l.fn.changed.from l.fn.changed.to l.initial.out l.out l.r
