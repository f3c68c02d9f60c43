-- `tidy_rules::same::row_same` meets its contract.
use Rattle.std.proofs.Common.{ap, ◌∙◌, arith}
use borrow.Author.Tests.{ne_eqb}
use Rattle.sheet.specs.Format.{Row}
use Rattle.rows.proofs.Layouts.{length-rows_in}
use Rattle.tidy_rules.specs.Segments.{head}
use Rattle.tidy_rules.proofs.Segments.{stands_row, stands_within}
use Rattle.tidy_rules.proofs.Entered.{argument_unique, row_kinds_differ, row_arguments_same}
use Rattle.tidy_rules.proofs.same.row_same.Goals as goal

pub kind_at-requires : goal.kind_at-requires
kind_at-requires c = (c.requires.0, omega (arith, stands_within c.requires.1.stands, length-rows_in c.args.b.now c.requires.0))

pub kind_at-requires-2 : goal.kind_at-requires-2
kind_at-requires-2 c = (c.requires.0, omega (arith, stands_within c.requires.2.stands, length-rows_in c.args.b.now c.requires.0))

pub returns-then-kind_at : goal.returns-then-kind_at
returns-then-kind_at c =
    λ front x back h z front' y back' h' z' a e f g.
    row_arguments_same (head x) (head y) a e (c.kind_at.ensures ∙ ap (λ (r : Row). r.kind) (stands_row h))
    (c.kind_at-2.ensures ∙ ap (λ (r : Row). r.kind) (stands_row h')) c.if-kind_at.true
    (argument_unique x z (c.argument_of.ensures front x back h) f) (argument_unique y z' (c.argument_of-then-kind_at.ensures front' y back' h') g)

pub returns-else-kind_at : goal.returns-else-kind_at
returns-else-kind_at c =
    λ front x back h z front' y back' h' z' a e f g.
    ne_eqb _ _ c.if-kind_at.false ∙
    row_kinds_differ (head x) (head y) a e (c.kind_at.ensures ∙ ap (λ (r : Row). r.kind) (stands_row h))
    (c.kind_at-2.ensures ∙ ap (λ (r : Row). r.kind) (stands_row h')) c.if-kind_at.false
