-- `substitution::change::new_kind` meets its contract.
use Rattle.std.proofs.Common.{◌≡◌, ap, ◌∙◌, true, not, get_or, arith}
use Rattle.sheet.specs.Format.{Row, row}
use Rattle.rows.specs.Layouts.{rows_in}
use Rattle.substitution.specs.Changes.{entry, chosen_row}
use Rattle.substitution.proofs.Changed.{row_stays, row_changes, row-renamed, row_put}
use Rattle.substitution.proofs.change.new_kind.Goals as goal
use Rattle.substitution.proofs.change.new_kind.Goals.{After-entry-e}

chosen : (c : After-entry-e) → chosen_row c.args.table.now (get_or (rows_in c.args.s c.args.b.now) c.args.r (row 0 0)) ≡ true
chosen c = row_changes _ _ c.is_changed.ensures (ap not c.if-not-is_changed.false)

entry_is : (c : After-entry-e) → c.entry-e.result ≡ entry c.args.table.now (get_or (rows_in c.args.s c.args.b.now) c.args.r (row 0 0)).argument
entry_is c = c.entry-e.ensures ∙ ap (entry c.args.table.now) c.argument_at.ensures.0

pub returns-then-not-is_changed : goal.returns-then-not-is_changed
returns-then-not-is_changed c =
    c.kind_at-kind.ensures ∙ ap (λ (r : Row). r.kind) (row_stays c.args.table.now _ c.is_changed.ensures (ap not c.if-not-is_changed.true))

pub returns-then-e-lt-NUMBERS : goal.returns-then-e-lt-NUMBERS
returns-then-e-lt-NUMBERS c =
    let read = (goal.at.returns-then-e-lt-NUMBERS c).After-entry-e in
    ap (λ (r : Row). r.kind) (row-renamed c.args.table.now _ (chosen read) c.kind_at-kind.ensures (entry_is read) (omega arith))

pub returns-then-kind-e : goal.returns-then-kind-e
returns-then-kind-e c =
    let read = (goal.at.returns-then-kind-e c).After-entry-e in
    ap (λ (r : Row). r.kind)
    (row_put c.args.table.now _ (chosen read) c.kind_at-kind.ensures (entry_is read) c.if-e-lt-NUMBERS.false
    (rw c.from.ensures at c.if-kind-e.true))

pub returns-else-kind-e : goal.returns-else-kind-e
returns-else-kind-e c =
    let read = (goal.at.returns-else-kind-e c).After-entry-e in
    ap (λ (r : Row). r.kind)
    (row_put c.args.table.now _ (chosen read) c.kind_at-kind.ensures (entry_is read) c.if-e-lt-NUMBERS.false
    (rw c.from.ensures at c.if-kind-e.false))
