-- `dependence::answer::lowest_dependent` meets its contract.
use Rattle.std.proofs.Common.{arith}
use Rattle.dependence.proofs.Answers.{lowest-dependents, no-dependents}
use Rattle.dependence.proofs.answer.lowest_dependent.Goals as goal

pub returns-then-v-lt-NUMBERS : goal.returns-then-v-lt-NUMBERS
returns-then-v-lt-NUMBERS c = λ x f d. lowest-dependents x f d c.lowest-v.ensures (omega arith)

pub returns-else-v-lt-NUMBERS : goal.returns-else-v-lt-NUMBERS
returns-else-v-lt-NUMBERS c = λ x f d. no-dependents x f d c.lowest-v.ensures c.if-v-lt-NUMBERS.false
