-- `tidy_rules::same::same_at` meets its contract.
use Rattle.std.proofs.Common.{◌+◌, arith}
use Rattle.rows.specs.Layouts.{rows_in}
use Rattle.rows.proofs.Layouts.{length-rows_in}
use Rattle.tidy_rules.specs.Segments.{Region}
use Rattle.tidy_rules.proofs.Segments.{stands_within, laid-within}
use Rattle.tidy_rules.proofs.Entered.{compare_none, compare_standing, compare_left, compare_right, compare_more, compare_differ, compare_short, compare_end, finds_within}
use Rattle.tidy_rules.proofs.same.same_at.Goals.{In-loop-i, Else-end-j, then-end-j-via-then-end-j, then-end-j-via-else-end-j+then-not-row_same}
use Rattle.tidy_rules.proofs.same.same_at.Goals as goal

pub extent_at-requires : goal.extent_at-requires
extent_at-requires c = (c.requires.0, omega (arith, stands_within c.requires.1.stands, length-rows_in c.args.b.now c.requires.0))

pub overflow_add-to : goal.overflow_add-to
overflow_add-to c = omega (arith, c.extent_at.ensures.1, stands_within c.requires.1.stands, length-rows_in c.args.b.now c.requires.0)

pub extent_at-requires-2 : goal.extent_at-requires-2
extent_at-requires-2 c = (c.requires.0, omega (arith, stands_within c.requires.2.stands, length-rows_in c.args.b.now c.requires.0))

pub overflow_add-end : goal.overflow_add-end
overflow_add-end c = omega (arith, c.extent_at-2.ensures.1, stands_within c.requires.2.stands, length-rows_in c.args.b.now c.requires.0)

pub loop-i-init : goal.loop-i-init
loop-i-init c = compare_none c.extent_at.ensures.0 c.extent_at-2.ensures.0

pub row_same-requires : goal.row_same-requires
row_same-requires c =
    let d = compare_standing c.loop-i.invariant c.requires.1 c.requires.2 c.loop-i-test.true c.if-end-j.false in
    (c.requires.0, d.0, d.1)

pub returns-then-end-j : goal.returns-then-end-j
returns-then-end-j c =
    let v = c.loop-i.invariant in
    let test = c.loop-i-test.true in
    elim c.then-end-j.branch [
      | then-end-j-via-then-end-j w ↦ compare_short v test w.if-end-j.true
      | then-end-j-via-else-end-j+then-not-row_same w ↦ compare_differ v test w.if-end-j.false (rw w.if-not-row_same.true at w.row_same.ensures)
    ]

-- behind the two rows
left : (c : In-loop-i) → Region (rows_in c.args.s c.args.b.now) (c.loop-i.i + 1) (c.args.p + c.extent_at.result)
left c = compare_left c.loop-i.invariant c.requires.1 c.requires.2 c.loop-i-test.true

right : (c : Else-end-j) → Region (rows_in c.args.s c.args.b.now) (c.loop-i.j + 1) (c.args.q + c.extent_at-2.result)
right c = compare_right c.loop-i.invariant c.requires.1 c.requires.2 c.if-end-j.false

pub overflow_add-i : goal.overflow_add-i
overflow_add-i c = let g = left (goal.at.overflow_add-i c).In-loop-i in omega (arith, laid-within g.laid, length-rows_in c.args.b.now c.requires.0)

pub first_live-i-requires : goal.first_live-i-requires
first_live-i-requires c = (c.requires.0, left (goal.at.first_live-i-requires c).In-loop-i)

pub overflow_add-j : goal.overflow_add-j
overflow_add-j c = let g = right (goal.at.overflow_add-j c).Else-end-j in omega (arith, laid-within g.laid, length-rows_in c.args.b.now c.requires.0)

pub first_live-j-requires : goal.first_live-j-requires
first_live-j-requires c = (c.requires.0, right (goal.at.first_live-j-requires c).Else-end-j)

pub loop-i-smaller : goal.loop-i-smaller
loop-i-smaller c =
    let w = finds_within c.first_live-i.ensures (left (goal.at.loop-i-smaller c).In-loop-i) in
    omega (arith, w.0, w.1, c.loop-i-test.true)

pub loop-i-preserved : goal.loop-i-preserved
loop-i-preserved c =
    compare_more c.loop-i.invariant c.loop-i-test.true c.if-end-j.false (rw c.if-not-row_same.false at c.row_same.ensures)
    c.first_live-i.ensures c.first_live-j.ensures

pub returns : goal.returns
returns c = compare_end c.loop-i.invariant c.loop-i-test.false
