-- `decide::search::ends_early` meets its contract. Assumes nothing.
use Rattle.std.proofs.Common.{ap, sym}
use Rattle.formula.specs.Decide.{ends_split}
use Rattle.formula.specs.Force.{owner}
use Rattle.rows.specs.Formulas.{prefix_in}
use Rattle.decide.specs.Answers.{outcome_of}
use Rattle.decide.proofs.Searching.{ends_true, ends_false}
use Rattle.decide.proofs.search.ends_early.Goals as goal

pub returns-in-Decided-True : goal.returns-in-Decided-True
returns-in-Decided-True c =
    ends_true c.requires.0 c.requires.1 c.is_existential-existential.ensures c.in-Decided-True.is
    (rw c.in-Decided-True.is at c.in-Decided-True.field-0-is)

pub returns-in-Decided-False : goal.returns-in-Decided-False
returns-in-Decided-False c =
    ends_false c.requires.0 c.requires.1 c.is_existential-existential.ensures c.in-Decided-False.is
    (rw c.in-Decided-False.is at c.in-Decided-False.field-0-is)

pub returns-in-NoPlace : goal.returns-in-NoPlace
unfolding ends_split
returns-in-NoPlace c = ap (λ o. ends_split (owner (prefix_in c.args.t c.args.b.now)) (outcome_of o)) (sym c.in-NoPlace.is)

pub returns-in-Spent : goal.returns-in-Spent
unfolding ends_split
returns-in-Spent c = ap (λ o. ends_split (owner (prefix_in c.args.t c.args.b.now)) (outcome_of o)) (sym c.in-Spent.is)
