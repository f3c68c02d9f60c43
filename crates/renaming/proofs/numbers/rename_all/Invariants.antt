-- `renaming::numbers::rename_all`: the variables of the rows passed are renamed.
use Rattle.rows.specs.Formulas.{prefix_in}
use Rattle.renaming.proofs.Renumbering.{Renaming}
use Rattle.renaming.proofs.numbers.rename_all.Given as goal

abbrev pub invariant-loop-j : goal.invariant-loop-j
invariant-loop-j l = Renaming (prefix_in l.s l.b) l.set l.used l.highest l.initial.table l.table l.from l.j
