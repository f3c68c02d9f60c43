-- `tidy_rules::same::argument_of` meets its contract.
use Rattle.std.proofs.Common.{ap, ◌∙◌, ◌+◌, ◌≤◌, ◌<◌, arith}
use Rattle.sheet.specs.Format.{Row}
use Rattle.rows.specs.Layouts.{rows_in, total}
use Rattle.rows.proofs.Layouts.{length-rows_in}
use Rattle.tidy_rules.specs.Segments.{Region}
use Rattle.tidy_rules.proofs.Segments.{stands_row, stands_within, laid-within}
use Rattle.tidy_rules.proofs.Judge.{inner_region}
use Rattle.tidy_rules.proofs.Entered.{argument_literal, argument_operator}
use Rattle.tidy_rules.proofs.same.argument_of.Goals.{Start, Else-kind_at-le-NEGATIVE}
use Rattle.tidy_rules.proofs.same.argument_of.Goals as goal

inside : (c : Start) → c.args.r < total c.args.s
inside c = omega (arith, stands_within c.requires.1.stands, length-rows_in c.args.b.now c.requires.0)

pub argument_at-argument-requires : goal.argument_at-argument-requires
argument_at-argument-requires c = (c.requires.0, inside (goal.at.argument_at-argument-requires c).Start)

pub kind_at-requires : goal.kind_at-requires
kind_at-requires c = (c.requires.0, inside (goal.at.kind_at-requires c).Start)

pub returns-then-kind_at-le-NEGATIVE : goal.returns-then-kind_at-le-NEGATIVE
returns-then-kind_at-le-NEGATIVE c =
    λ before x after h.
    argument_literal x _ (rw (c.kind_at.ensures ∙ ap (λ (r : Row). r.kind) (stands_row h)) at c.if-kind_at-le-NEGATIVE.true)
    (c.argument_at-argument.ensures.0 ∙ ap (λ (r : Row). r.argument) (stands_row h))

children : (c : Else-kind_at-le-NEGATIVE) → Region (rows_in c.args.s c.args.b.now) (c.args.r + 1) (c.args.r + c.argument_at-argument.result)
children c =
    let g = c.requires.1 in
    let r = stands_row g.stands in
    inner_region g.segment (rw (c.kind_at.ensures ∙ ap (λ (q : Row). q.kind) r) at c.if-kind_at-le-NEGATIVE.false)
    (c.argument_at-argument.ensures.0 ∙ ap (λ (q : Row). q.argument) r) g.stands

children_within : (c : Else-kind_at-le-NEGATIVE)
    → (c.args.r + 1 ≤ c.args.r + c.argument_at-argument.result) × (c.args.r + c.argument_at-argument.result ≤ total c.args.s)
children_within c =
    let i = laid-within (children c).laid in
    (i.0, omega (arith, i.1, length-rows_in c.args.b.now c.requires.0))

pub overflow_add-r : goal.overflow_add-r
overflow_add-r c = omega (arith, children_within (goal.at.overflow_add-r c).Else-kind_at-le-NEGATIVE)

pub overflow_add-r-2 : goal.overflow_add-r-2
overflow_add-r-2 c = omega (arith, children_within (goal.at.overflow_add-r-2 c).Else-kind_at-le-NEGATIVE)

pub count_live-requires : goal.count_live-requires
count_live-requires c = (c.requires.0, children (goal.at.count_live-requires c).Else-kind_at-le-NEGATIVE)

pub returns : goal.returns
returns c =
    λ before x after h.
    argument_operator x _ _ (rw (c.kind_at.ensures ∙ ap (λ (r : Row). r.kind) (stands_row h)) at c.if-kind_at-le-NEGATIVE.false)
    (c.argument_at-argument.ensures.0 ∙ ap (λ (r : Row). r.argument) (stands_row h)) h c.count_live.ensures.0
