-- `renaming::prefix::write_all_copied`: the rows of the copies of the variables passed are written.
use Rattle.rows.specs.Formulas.{prefix_in}
use Rattle.renaming.proofs.Copied.{Copying}
use Rattle.renaming.proofs.prefix.write_all_copied.Given as goal

abbrev pub invariant-loop-j : goal.invariant-loop-j
invariant-loop-j l = Copying l.table (prefix_in l.s l.b) l.to.layout l.initial.out l.initial.at l.out l.at l.j
