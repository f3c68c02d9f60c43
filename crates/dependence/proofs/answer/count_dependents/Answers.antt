-- `dependence::answer::count_dependents` meets its contract.
use Rattle.std.proofs.Common.{◌∙◌, arith}
use Rattle.sets.proofs.Members.{size_most}
use Rattle.dependence.proofs.Answers.{size-dependents}
use Rattle.dependence.proofs.answer.count_dependents.Goals as goal

pub returns-clause-by_index : goal.returns-clause-by_index
returns-clause-by_index c = λ x f own d. c.count.ensures ∙ size-dependents x f d own

pub returns-clause-upper_bound : goal.returns-clause-upper_bound
returns-clause-upper_bound c = omega (arith, size_most c.args.set.now)
