-- `substitution::copy::copy_arguments` meets its contract.
use Rattle.std.proofs.Common.{◌≡◌, sym, ap, ap₂, ◌∙◌, ◌++◌, ◌+◌, ◌*◌, ◌-◌, ◌≤◌, ◌<◌, length, take, drop, arith, rules}
use Rattle.std.proofs.Math.Seq.{slice}
use Rattle.sheet.specs.Format.{digits}
use Rattle.sheet.specs.Sheet.{row_arguments}
use Rattle.rows.specs.Layouts.{width, rows_in, argument_place}
use Rattle.rows.proofs.Rows.{next_row}
use Rattle.substitution.specs.Output.{extent, copy_in}
use Rattle.substitution.proofs.Lent.{arguments-none, arguments-next, arguments-all}
use Rattle.substitution.proofs.Spans.{arguments-within, span-arguments}
use Rattle.substitution.proofs.copy.copy_arguments.Goals as goal
use Rattle.substitution.proofs.copy.copy_arguments.Goals.{Start, After-copy_bytes, In-loop-r}

-- the bytes of the arguments are within the source
source_within : (c : Start) → argument_place c.args.s c.args.span.from + width c.args.s * extent c.args.span ≤ length c.args.b.now
source_within c = arguments-within c.args.s c.args.b.now c.requires.0.source c.args.span c.requires.0.within

-- they are moved as they are
as_they_are : (c : After-copy_bytes)
    → c.copy_bytes.new.out ≡
    row_arguments c.width-w.result (slice c.args.span.from c.args.span.to (rows_in c.args.s c.args.b.now)) ++
    drop (c.width-w.result * extent c.args.span) c.args.out.now
as_they_are c =
    let b = c.args.b.now in
    let span = c.args.span in
    let w = c.width-w in
    c.copy_bytes.ensures ∙
    ap (λ l. l ++ drop (w.result * extent span) c.args.out.now)
    (ap₂ (λ v n. take (v * extent span) (drop n b)) w.ensures.0 c.argument_place.ensures ∙
    span-arguments c.args.s b c.requires.0.source span c.requires.0.within (λ i. search rules) ∙
    ap (λ v. row_arguments v (slice span.from span.to (rows_in c.args.s b))) (sym w.ensures.0))

-- and have as much room as they had
room : (c : After-copy_bytes) → c.width-w.result * extent c.args.span ≤ length c.copy_bytes.new.out
room c = omega (arith, ap (λ v. v * extent c.args.span) c.width-w.ensures.0, c.copy_bytes.auto.out, c.requires.1)

-- a row's argument is within
here : (c : In-loop-r) → c.width-w.result * (c.loop-r.r - c.args.span.from) + c.width-w.result ≤ length c.loop-r.out
here c =
    let k = c.requires.0.between in
    let less : c.loop-r.r - c.args.span.from < extent c.args.span =
    omega (arith, c.loop-r-test.true, c.loop-r.invariant.begun, k.start, k.end) in
    omega (arith, ap (λ v. v * extent c.args.span) c.width-w.ensures.0, c.copy_bytes.auto.out, c.requires.1, c.loop-r.auto.out, next_row c.width-w.result less)

pub argument_place-requires : goal.argument_place-requires
argument_place-requires c = omega (arith, source_within (goal.at.argument_place-requires c).Start, c.well_formed)

pub overflow_mul-w : goal.overflow_mul-w
overflow_mul-w c = rw c.width-w.ensures.0 (record { fits = omega (arith, source_within (goal.at.overflow_mul-w c).Start, c.well_formed) })

pub copy_bytes-requires : goal.copy_bytes-requires
copy_bytes-requires c = (
  rw (c.argument_place.ensures, c.width-w.ensures.0) (source_within (goal.at.copy_bytes-requires c).Start),
  rw c.width-w.ensures.0 c.requires.1,
)

pub loop-r-init : goal.loop-r-init
loop-r-init c = arguments-none c.requires.0 _ _

pub overflow_mul-w-in-loop-r : goal.overflow_mul-w-in-loop-r
overflow_mul-w-in-loop-r c = record { fits = omega (arith, here (goal.at.overflow_mul-w-in-loop-r c).In-loop-r, c.loop-r.auto.out, c.copy_bytes.auto.out, c.well_formed) }

pub put_number-requires : goal.put_number-requires
put_number-requires c = omega (arith, here (goal.at.put_number-requires c).In-loop-r, c.width-w.ensures.0)

pub loop-r-preserved : goal.loop-r-preserved
loop-r-preserved c =
    let w = c.width-w in
    let place = w.result * (c.loop-r.r - c.args.span.from) in
    arguments-next c.requires.0 w.result (room (goal.at.loop-r-preserved c).After-copy_bytes) c.loop-r.invariant c.loop-r-test.true c.new_argument.ensures
    c.put_number.auto.b
    (c.put_number.ensures ∙
    ap (λ v. take place c.loop-r.out ++ digits v c.new_argument.result ++ drop (place + v) c.loop-r.out) (sym w.ensures.0))

pub returns : goal.returns
returns c =
    arguments-all c.requires.0 c.width-w.result _ (as_they_are (goal.at.returns c).After-copy_bytes) c.loop-r-test.false c.loop-r.invariant ∙
    ap (λ v. row_arguments v (copy_in c.args.s c.args.b.now c.args.table.now c.args.span) ++ drop (v * extent c.args.span) c.args.out.now)
    c.width-w.ensures.0
