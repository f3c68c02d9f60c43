-- `step_list::numbers::load`: the records passed have their operations and variables. Assumes nothing.
use Rattle.step_list.specs.Inner.Parts.{Loaded}
use Rattle.step_list.proofs.numbers.load.Given as goal

abbrev pub invariant-loop-j : goal.invariant-loop-j
invariant-loop-j l = Loaded l.operations l.variables l.at l.j l.steps
