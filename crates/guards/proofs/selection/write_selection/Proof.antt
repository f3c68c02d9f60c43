-- `guards::selection::write_selection` meets its contract. Assumes nothing.
use mathlib.Core.Path.{◌≡◌, refl, ◌∙◌}
use native.Mathlib.Omega.{arith}
use lib.ListN.{length}
use Rattle.substitution.proofs.Splice.{ready_on}
use Rattle.raw.proofs.Raws.{room_on}
use Rattle.guards.proofs.Writing.{both_long, part_room, part_ready, all_placed, part_written}
use borrow.Author.Rules.{rules}
use Rattle.guards.proofs.selection.write_selection.Statement.{statement}
use Rattle.guards.proofs.selection.write_selection.Tie as tie

-- places in the code, each from a later one
abbrev to_after_write_rows_top : tie.After-write_row-arg-1 → tie.After-write_rows-top
to_after_write_rows_top c = c.before.before.before

abbrev to_after_write_row_below : tie.After-write_kept-arg-1 → tie.After-write_row-below
to_after_write_row_below c = c.before.before.before

abbrev to_after_struct_known_2_1 : tie.After-write_rows-arg-2-1 → tie.After-struct_known-2-1
to_after_struct_known_2_1 c = c.before.before.before

abbrev to_after_write_kept_next : tie.After-struct_known-2-1 → tie.After-write_kept-next
to_after_write_kept_next c = c.before.before.before

abbrev to_after_write_rows_arg_2_1 : tie.After-slice_known-5-1 → tie.After-write_rows-arg-2-1
to_after_write_rows_arg_2_1 c = c.before.before.before

-- the rows of the prefix, of the root and of the children kept are written one after the other
-- the output is as long as it was
same_1 : (c : tie.After-write_rows-top) → length c.write_rows-top.new.out ≡ length c.args.out.now
same_1 c = c.write_rows-top.auto.out

same_2 : (c : tie.After-write_row-below) → length c.write_row-below.new.out ≡ length c.args.out.now
same_2 c = c.write_row-below.auto.out ∙ same_1 (to_after_write_rows_top c.before)

same_3 : (c : tie.After-write_kept-next) → length c.write_kept-next.new.out ≡ length c.args.out.now
same_3 c = c.write_kept-next.auto.out ∙ same_2 (to_after_write_row_below c.before)

overflow_add-t : tie.Need-overflow_add-t
overflow_add-t c = search rules

write_rows-top-requires : tie.Need-write_rows-top-requires
write_rows-top-requires c κs =
    let a = c in
    (part_ready a.requires.0 a.args.out.now a.requires.1, record { ordered = omega arith; inside = omega arith }, omega arith)

write_row-below-requires : tie.Need-write_row-below-requires
write_row-below-requires c κs =
    let wrote = c in
    let h = wrote.requires in
    (part_room h.0 (room_on h.1 (same_1 wrote.before.before.before)), omega (arith, wrote.write_rows-top.ensures.1), h.0.fit)

write_kept-next-requires : tie.Need-write_kept-next-requires
write_kept-next-requires c κs =
    let wrote = c in
    let a = wrote in
    let h = a.requires.0 in
    record {
      readable = h.readable;
      ready = ready_on (part_ready h a.args.out.now a.requires.1) (same_2 wrote.before.before.before);
      holds = h.holds;
      placed = all_placed h;
      room = omega (arith, wrote.write_rows-top.ensures.1, wrote.write_row-below.ensures.next_row, both_long h);
    }

overflow_add-others : tie.Need-overflow_add-others
overflow_add-others c =
    let h = c.requires.0 in
    omega (arith, h.rest_within, h.readable.few_nodes, h.readable.few_variables)

overflow_add-others-2 : tie.Need-overflow_add-others-2
overflow_add-others-2 c =
    let h = c.requires.0 in
    omega (arith, h.readable.few_nodes, h.readable.few_variables)

write_rows-requires : tie.Need-write_rows-requires
write_rows-requires c κs =
    let wrote = c in
    let a = wrote in
    let h = a.requires.0 in
    let top = wrote.write_rows-top.ensures.1 in (
      ready_on (part_ready h a.args.out.now a.requires.1) (same_3 (to_after_write_kept_next (to_after_struct_known_2_1 wrote))),
      record { ordered = omega (arith, h.rest_within); inside = omega arith },
      omega (arith, h.rest_within, top, wrote.write_row-below.ensures.next_row, wrote.write_kept-next.ensures.next_row, both_long h),
    )

shape_of-out : tie.Need-shape_of-out
shape_of-out c = search rules

returns : tie.Need-returns
returns c =
    let last = c in
    let kept = last in
    let h = kept.requires in
    let first = kept.write_rows-top.ensures in (
      refl,
      part_written h.0 (part_room h.0 (room_on h.1 (last.write_rows.auto.out ∙ same_3 (to_after_write_kept_next (to_after_struct_known_2_1 (to_after_write_rows_arg_2_1 kept))))))
          (omega (arith, first.1)) first.0 kept.write_row-below.ensures kept.write_kept-next.ensures last.write_rows.ensures.0,
    )

pub write_selection_spec : {M : Type 1} → statement M
write_selection_spec =
    tie.close
    (tie.spec
    overflow_add-t
    write_rows-top-requires
    write_row-below-requires
    write_kept-next-requires
    overflow_add-others
    overflow_add-others-2
    write_rows-requires
    shape_of-out
    returns)
