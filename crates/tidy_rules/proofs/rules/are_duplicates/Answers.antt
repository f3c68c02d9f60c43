-- `tidy_rules::rules::are_duplicates` meets its contract.
use Rattle.std.proofs.Common.{sym, ◌∙◌, subst}
use borrow.Author.Tests.{ne_eqb}
use Rattle.rows.specs.Layouts.{rows_in}
use Rattle.tidy_rules.specs.Entered.{LiveAt}
use Rattle.tidy_rules.proofs.Find.{duplicates_apart, duplicates_same}
use Rattle.tidy_rules.proofs.rules.are_duplicates.Goals as goal

pub same_at-requires : goal.same_at-requires
same_at-requires c =
    let lives = LiveAt (rows_in c.args.s c.args.b.now) in
    (c.requires.0, subst lives (sym c.row_of.ensures) c.requires.1, subst lives (sym c.row_of-then-hash_of.ensures) c.requires.2)

pub returns-then-hash_of : goal.returns-then-hash_of
returns-then-hash_of c = duplicates_same c.same_at.result (rw (sym c.row_of.ensures, sym c.row_of-then-hash_of.ensures) c.same_at.ensures)

pub returns-else-hash_of : goal.returns-else-hash_of
returns-else-hash_of c =
    let d = c.if-hash_of.false in
    rw (ne_eqb _ _ d) (duplicates_apart (λ e. d (c.hash_of.ensures.0 ∙ e ∙ sym c.hash_of-2.ensures.0)))
