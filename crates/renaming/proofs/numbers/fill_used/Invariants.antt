-- `renaming::numbers::fill_used`: the variables of the rows passed are in the set.
use Rattle.rows.specs.Formulas.{prefix_in}
use Rattle.renaming.proofs.Renumbering.{Using}
use Rattle.renaming.proofs.numbers.fill_used.Given as goal

abbrev pub invariant-loop-j : goal.invariant-loop-j
invariant-loop-j l = Using (prefix_in l.s l.b) l.used l.j
