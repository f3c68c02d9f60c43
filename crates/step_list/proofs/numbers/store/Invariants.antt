-- `step_list::numbers::store`: the answers of the records passed stand in both arrays. Assumes nothing.
use Rattle.step_list.specs.Inner.Parts.{Stored}
use Rattle.step_list.proofs.numbers.store.Given as goal

abbrev pub invariant-loop-j : goal.invariant-loop-j
invariant-loop-j l = Stored l.fn.steps l.j l.at l.fn.numbers l.fn.values l.numbers l.values
