-- `substitution::table::keep_all`: the entries passed are their own numbers.
use Rattle.substitution.proofs.Tables.{Keeping}
use Rattle.substitution.proofs.table.keep_all.Given as goal

abbrev pub invariant-loop-i : goal.invariant-loop-i
invariant-loop-i l = Keeping l.initial.table l.table l.i
