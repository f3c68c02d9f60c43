-- `duplicates::differ` meets its contract: by kinds, then by arguments.
use Rattle.std.proofs.Common.{sym, ap, ◌∙◌, not}
use borrow.Author.Tests.{ne_eqb}
use Rattle.duplicates.proofs.Comparing.{tops_kind, tops_argument}
use Rattle.duplicates.proofs.differ.Goals as goal

pub returns-then-kind_at : goal.returns-then-kind_at
returns-then-kind_at c =
    let d = c.if-kind_at.true in
    ap not (ne_eqb _ _ d ∙ sym (tops_kind _ _ (λ e. d (c.kind_at.ensures ∙ e ∙ sym c.kind_at-2.ensures))))

pub returns-else-kind_at : goal.returns-else-kind_at
returns-else-kind_at c =
    sym
    (ap not
    (tops_argument _ _ (sym c.kind_at.ensures ∙ c.if-kind_at.false ∙ c.kind_at-2.ensures) c.argument_at.ensures.0
    c.argument_at-else-kind_at.ensures.0))
