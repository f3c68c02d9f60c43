-- `duplicates::same_variable` meets its contract: by the other row's kind, then by variables.
use Rattle.std.proofs.Common.{sym, ◌∙◌, arith, rules}
use borrow.Author.Tests.{lt-leb}
use Rattle.duplicates.proofs.Members.{no_variable, by_variable}
use Rattle.duplicates.proofs.same_variable.Goals as goal

pub returns-then-kind_at-le-NEGATIVE : goal.returns-then-kind_at-le-NEGATIVE
returns-then-kind_at-le-NEGATIVE c =
    let k = c.kind_at.ensures in
    by_variable _ _ c.requires.3 (omega arith) c.argument_at.ensures.0 c.argument_at-then-kind_at-le-NEGATIVE.ensures.0

pub returns-else-kind_at-le-NEGATIVE : goal.returns-else-kind_at-le-NEGATIVE
returns-else-kind_at-le-NEGATIVE c =
    let k = c.kind_at.ensures in
    lt-leb _ 4 (search rules) ∙ sym (no_variable _ _ (omega arith))
