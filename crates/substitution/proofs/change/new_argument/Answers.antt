-- `substitution::change::new_argument` meets its contract.
use Rattle.std.proofs.Common.{◌≡◌, refl, ap, ◌∙◌, true, not, get_or, arith}
use Rattle.sheet.specs.Format.{Row, row}
use Rattle.rows.specs.Layouts.{rows_in}
use Rattle.substitution.specs.Changes.{entry, chosen_row}
use Rattle.substitution.proofs.Changed.{row_stays, row_changes, row-renamed, row_put}
use Rattle.substitution.proofs.change.new_argument.Goals as goal
use Rattle.substitution.proofs.change.new_argument.Goals.{Start, After-entry-e}

abbrev here : Start → Row
here c = get_or (rows_in c.args.s c.args.b.now) c.args.r (row 0 0)

chosen : (c : After-entry-e) → chosen_row c.args.table.now (get_or (rows_in c.args.s c.args.b.now) c.args.r (row 0 0)) ≡ true
chosen c = row_changes _ _ c.is_changed.ensures (ap not c.if-not-is_changed.false)

entry_is : (c : After-entry-e) → c.entry-e.result ≡ entry c.args.table.now (get_or (rows_in c.args.s c.args.b.now) c.args.r (row 0 0)).argument
entry_is c = c.entry-e.ensures ∙ ap (entry c.args.table.now) c.argument_at-v.ensures.0

pub returns-then-not-is_changed : goal.returns-then-not-is_changed
returns-then-not-is_changed c =
    c.argument_at-v.ensures.0 ∙ ap (λ (r : Row). r.argument) (row_stays c.args.table.now _ c.is_changed.ensures (ap not c.if-not-is_changed.true))

pub returns-then-e-lt-NUMBERS : goal.returns-then-e-lt-NUMBERS
returns-then-e-lt-NUMBERS c =
    let read = (goal.at.returns-then-e-lt-NUMBERS c).After-entry-e in
    ap (λ (r : Row). r.argument)
    (row-renamed c.args.table.now _ (chosen read) {k = (here (goal.at.returns-then-e-lt-NUMBERS c).Start).kind} refl (entry_is read) (omega arith))

pub returns : goal.returns
returns c =
    let read = (goal.at.returns c).After-entry-e in
    ap (λ (r : Row). r.argument)
    (row_put c.args.table.now _ (chosen read) {k = (here (goal.at.returns c).Start).kind} refl (entry_is read) c.if-e-lt-NUMBERS.false refl)
