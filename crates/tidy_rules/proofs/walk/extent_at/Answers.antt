-- `tidy_rules::walk::extent_at` meets its contract.
use Rattle.std.proofs.Common.{sym, ◌∙◌, ⊎_elim, arith}
use Rattle.tidy_rules.proofs.Walks.{extent_three, extent_four, extent_other}
use Rattle.tidy_rules.proofs.walk.extent_at.Goals as goal

pub returns-then-k-eq-POSITIVE : goal.returns-then-k-eq-POSITIVE
returns-then-k-eq-POSITIVE c =
    let k = sym c.kind_at-k.ensures in (
      ⊎_elim (λ e. sym (extent_three _ (k ∙ e))) (λ e. sym (extent_four _ (k ∙ e.1))) c.then-k-eq-POSITIVE.either,
      omega arith,
    )

pub returns : goal.returns
returns c =
    let k = c.kind_at-k.ensures in (
      c.argument_at.ensures.0 ∙ sym (extent_other _ (λ e. c.if-k-eq-POSITIVE.false (k ∙ e)) (λ e. c.if-k-eq-NEGATIVE.false (k ∙ e))),
      c.argument_at.ensures.1,
    )
