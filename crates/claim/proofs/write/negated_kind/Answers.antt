-- `claim::write::negated_kind` meets its contract.
use Rattle.claim.proofs.Negation.{negated_three, negated_four, negated_five, negated_others}
use Rattle.claim.proofs.write.negated_kind.Goals as goal

pub returns-then-kind-eq-POSITIVE : goal.returns-then-kind-eq-POSITIVE
returns-then-kind-eq-POSITIVE c = negated_three c.args.kind c.if-kind-eq-POSITIVE.true

pub returns-then-kind-eq-NEGATIVE : goal.returns-then-kind-eq-NEGATIVE
returns-then-kind-eq-NEGATIVE c = negated_four c.args.kind c.if-kind-eq-NEGATIVE.true

pub returns-then-kind-eq-AND : goal.returns-then-kind-eq-AND
returns-then-kind-eq-AND c = negated_five c.args.kind c.if-kind-eq-AND.true

pub returns : goal.returns
returns c = negated_others c.args.kind c.if-kind-eq-POSITIVE.false c.if-kind-eq-NEGATIVE.false c.if-kind-eq-AND.false
