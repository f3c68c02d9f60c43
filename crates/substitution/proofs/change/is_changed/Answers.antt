-- `substitution::change::is_changed` meets its contract.
use Rattle.substitution.proofs.Changed.{chosen_own, chosen_low, chosen_other}
use Rattle.substitution.proofs.change.is_changed.Goals as goal

pub returns-then-entry-v : goal.returns-then-entry-v
returns-then-entry-v c = chosen_own _ _ c.argument_at-v.ensures.0 c.entry.ensures c.if-entry-v.true

pub returns-then-kind-lt-POSITIVE : goal.returns-then-kind-lt-POSITIVE
returns-then-kind-lt-POSITIVE c = chosen_low _ _ c.kind_at-kind.ensures c.if-kind-lt-POSITIVE.true

pub returns : goal.returns
returns c =
    chosen_other _ _ c.kind_at-kind.ensures c.if-kind-lt-POSITIVE.false c.argument_at-v.ensures.0 c.entry.ensures c.if-entry-v.false
