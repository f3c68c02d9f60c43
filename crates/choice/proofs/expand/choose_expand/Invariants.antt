-- `choice::expand::choose_expand`: the cheapest so far, through the innermost block.
use Rattle.choice.proofs.Expanding.{Pricing}
use Rattle.choice.proofs.expand.choose_expand.Given as goal

abbrev pub invariant-loop-i : goal.invariant-loop-i
invariant-loop-i l = Pricing l.s l.b l.i l.best
