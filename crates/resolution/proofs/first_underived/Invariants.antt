-- `resolution::first_underived`: the steps passed are derived.
use Rattle.resolution.proofs.Steps.{Deriving}
use Rattle.resolution.proofs.first_underived.Given as goal

abbrev pub invariant-loop-k : goal.invariant-loop-k
invariant-loop-k l = Deriving l.heads l.codes l.own l.other l.k
