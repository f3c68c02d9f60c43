-- `tidy_rules::walk::first_live` meets its contract.
use Rattle.std.proofs.Common.{◌≡◌, refl, sym, ◌∙◌, arith}
use Rattle.rows.specs.Layouts.{rows_in}
use Rattle.tidy_rules.specs.Walks.{extent, at_row}
use Rattle.tidy_rules.proofs.Walks.{Turn, Hidden, scan_none, scan_turn, scan_more, extent_dead, hidden_more, first_found}
use Rattle.tidy_rules.proofs.walk.first_live.Goals.{In-loop-at, After-argument_at-at}
use Rattle.tidy_rules.proofs.walk.first_live.Goals as goal

pub loop-at-init : goal.loop-at-init
loop-at-init c = scan_none Hidden refl

-- the segment that the walk has come to
turn : (c : In-loop-at) → Turn c.args.s c.args.b.now c.loop-at.at c.args.to
turn c = scan_turn c.args.b.now c.requires.0 c.loop-at.invariant c.requires.1 c.loop-at-test.true

pub kind_at-requires : goal.kind_at-requires
kind_at-requires c = (c.requires.0, (turn (goal.at.kind_at-requires c).In-loop-at).row_within)

pub returns-then-kind_at-ne-GONE : goal.returns-then-kind_at-ne-GONE
returns-then-kind_at-ne-GONE c = first_found c.loop-at.invariant (λ l e. c.if-kind_at-ne-GONE.true (c.kind_at.ensures ∙ e))

pub argument_at-at-requires : goal.argument_at-at-requires
argument_at-at-requires c = (c.requires.0, (turn (goal.at.argument_at-at-requires c).In-loop-at).row_within)

argument_is : (c : After-argument_at-at) → c.argument_at-at.result ≡ extent (at_row (rows_in c.args.s c.args.b.now) c.loop-at.at)
argument_is c = c.argument_at-at.ensures.0 ∙ sym (extent_dead _ (sym c.kind_at.ensures ∙ c.if-kind_at-ne-GONE.false))

pub overflow_add-at : goal.overflow_add-at
overflow_add-at c = omega (arith, c.argument_at-at.ensures.1, (turn (goal.at.overflow_add-at c).In-loop-at).end_within)

pub loop-at-smaller : goal.loop-at-smaller
loop-at-smaller c =
    let t = turn (goal.at.loop-at-smaller c).In-loop-at in
    omega (arith, t.some_rows, t.inside, argument_is (goal.at.loop-at-smaller c).After-argument_at-at)

pub loop-at-preserved : goal.loop-at-preserved
loop-at-preserved c =
    scan_more Hidden c.loop-at.invariant c.loop-at-test.true (argument_is (goal.at.loop-at-preserved c).After-argument_at-at)
    (hidden_more (sym c.kind_at.ensures ∙ c.if-kind_at-ne-GONE.false))

pub returns : goal.returns
returns c = first_found c.loop-at.invariant (λ l e. omega (arith, c.loop-at-test.false))
