-- `choice::settle::choose_by`: the choice among the rows passed.
use Rattle.choice.specs.Settling.{SettlesBefore}
use Rattle.choice.proofs.settle.choose_by.Given as goal

abbrev pub invariant-loop-i : goal.invariant-loop-i
invariant-loop-i l = SettlesBefore l.i l.s l.b l.best
