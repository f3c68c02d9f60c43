-- `guards::find` meets its contract. Assumes nothing.
use mathlib.Core.Path.{◌≡◌, sym, ap, ap₂, ◌∙◌, subst}
use Prim.Native.Nat.{ℕ, ◌≤◌, min}
use native.Mathlib.Omega.{arith}
use lib.ListN.{length}
use Rattle.sheet.specs.Trace.{room}
use Rattle.solve.proofs.Answering.{raw-ready}
use Rattle.guards.specs.Inner.Sieves.{Siftable, Said, found_call}
use Rattle.guards.proofs.Deciding.{sheet-size, copied-said}
use borrow.Author.Rules.{rules}
use Rattle.guards.proofs.find.Statement.{statement}
use Rattle.guards.proofs.find.Tie as tie

-- places in the code, each from a later one
abbrev to_after_copy_front : tie.After-run_raw-arg-1 → tie.After-copy_front
to_after_copy_front c = c.before.before.before

abbrev to_after_slice_known_2_1 : tie.After-copy_front → tie.After-slice_known-2-1
to_after_slice_known_2_1 c = c.before.before.before

abbrev to_start : tie.After-slice_known-2-1 → tie.Start
to_start c = c.before.before.before

abbrev to_after_second_1 : tie.After-after_run-arg-2-1 → tie.After-second-1
to_after_second_1 c = c.before.before.before

abbrev to_after_run_raw_answer : tie.After-second-1 → tie.After-run_raw-answer
to_after_run_raw_answer c = c.before.before.before

abbrev to_after_slice_known_6_1 : tie.After-after_run-arg-3-1 → tie.After-slice_known-6-1
to_after_slice_known_6_1 c = c.before.before.before

abbrev to_after_first_2_1 : tie.After-slice_known-6-1 → tie.After-first-2-1
to_after_first_2_1 c = c.before.before.before

abbrev to_after_run_raw_arg_1 : tie.After-first-2-1 → tie.After-run_raw-arg-1
to_after_run_raw_arg_1 c = c.before.before.before

abbrev to_after_out_1 : tie.After-slice_known-8-1 → tie.After-out-1
to_after_out_1 c = c.before.before.before

abbrev to_after_after_run_arg_2_1 : tie.After-out-1 → tie.After-after_run-arg-2-1
to_after_after_run_arg_2_1 c = c.before.before.before

abbrev most : tie.Start → ℕ
most a = room a.args.first.now a.args.second.now

-- the sheet has its place, and the work buffers are as long as they were
has_place : (a : tie.Start) → length a.args.sheet.now ≤ most a
has_place a = omega (arith, sheet-size a.requires.0.sheet, a.requires.0.has_room)

same_room : (c : tie.After-run_raw-answer) → room c.run_raw-answer.new.first c.run_raw-answer.new.second ≡ most (to_start (to_after_slice_known_2_1 (to_after_copy_front c.before.before)))
same_room c = ap₂ min (c.run_raw-answer.auto.first ∙ c.copy_front.auto.out) c.run_raw-answer.auto.second

copy_front-requires : tie.Need-copy_front-requires
copy_front-requires c κs = omega (arith, has_place (to_start c.before.before))

run_raw-answer-requires : tie.Need-run_raw-answer-requires
run_raw-answer-requires c κs =
    let front = c in
    let a = front in
    raw-ready a.requires.0.sheet a.args.first.now a.args.second.now (has_place (to_start (to_after_slice_known_2_1 (to_after_copy_front a.before)))) front.copy_front.ensures

after_run-requires : tie.Need-after_run-requires
after_run-requires c κs =
    let ran = c in
    let a = ran in
    let x = a.args in (
      subst (Siftable x.s x.sheet.now) (sym (same_room (to_after_run_raw_answer (to_after_second_1 ran.before)))) a.requires.0,
      a.requires.1,
      subst (λ (m : ℕ). Said x.s x.sheet.now m ran.run_raw-answer.result) (sym (same_room (to_after_run_raw_answer (to_after_second_1 ran.before))))
          (copied-said a.requires.0.sheet x.first.now x.second.now
          (omega (arith, has_place (to_start (to_after_slice_known_2_1 (to_after_copy_front (to_after_run_raw_arg_1 (to_after_first_2_1 (to_after_slice_known_6_1 a)))))))) ran.copy_front.ensures
          ran.run_raw-answer.result ran.run_raw-answer.ensures),
    )

shape_of-out : tie.Need-shape_of-out
shape_of-out c = search rules

shape_of-first : tie.Need-shape_of-first
shape_of-first c = search rules

shape_of-second : tie.Need-shape_of-second
shape_of-second c = search rules

returns : tie.Need-returns
returns c =
    let done = c in
    let ran = done in
    let a = ran.args in
    done.after_run.ensures ∙ ap (found_call a.s a.sheet.now a.out.now) (same_room (to_after_run_raw_answer (to_after_second_1 (to_after_after_run_arg_2_1 (to_after_out_1 ran.before.before)))))

pub find_spec : {M : Type 1} → statement M
find_spec =
    tie.close
    (tie.spec
    copy_front-requires
    run_raw-answer-requires
    after_run-requires
    shape_of-out
    shape_of-first
    shape_of-second
    returns)
