-- `sort_compare::sort::sort_into` meets its contract. Assumes nothing.
use borrow.Author.Rules.{rules}
use mathlib.Core.Path.{sym}
use native.Mathlib.Omega.{arith}
use Rattle.rows.specs.Formulas.{Readable}
use Rattle.checking.proofs.CheckedSheets.{sheet_readable}
use Rattle.sort_compare.proofs.Written.{part_length, copied-room, new-room, sorted-sealed}
use Rattle.sort_compare.proofs.sort.sort_into.Statement.{statement}
use Rattle.sort_compare.proofs.sort.sort_into.Tie as tie

-- places in the code, each from a later one
abbrev to_after_copy_front : tie.After-table-1 → tie.After-copy_front
to_after_copy_front c = c.before.before.before

abbrev to_after_table_2_1 : tie.After-seal-arg-1 → tie.After-table-2-1
to_after_table_2_1 c = c.before.before.before

abbrev to_after_table_1 : tie.After-table-2-1 → tie.After-table-1
to_after_table_1 c = c.before.before.before

copy_front-requires : tie.Need-copy_front-requires
copy_front-requires c κs = c.requires.1

readable : (c : tie.After-copy_front) → Readable c.args.s c.args.source.now
readable c = sheet_readable c.requires.0

slice_bounds-table-end : tie.Need-slice_bounds-table-end
slice_bounds-table-end c = (readable c.before.before).few_nodes

slice_bounds-write_sorted-end : tie.Need-slice_bounds-write_sorted-end
slice_bounds-write_sorted-end c = sym (part_length 8192 _ (readable c.before.before.before).few_nodes)

write_sorted-requires : tie.Need-write_sorted-requires
write_sorted-requires c κs =
    let d = c in
    let a = d in (
      readable (to_after_copy_front d.before),
      part_length 8192 _ (readable (to_after_copy_front d.before)).few_nodes,
      copied-room a.requires.0 a.args.out.now a.requires.1 d.copy_front.ensures,
    )

overflow_add-s : tie.Need-overflow_add-s
overflow_add-s c =
    let ok = readable (to_after_copy_front (to_after_table_1 (to_after_table_2_1 c.before))) in
    omega (arith, ok.few_nodes, ok.few_variables)

seal-requires : tie.Need-seal-requires
seal-requires c κs =
    let w = c in
    let d = w in
    let a = d in (
      new-room a.requires.0 a.args.out.now a.requires.1 d.copy_front.ensures w.write_sorted.new.out w.write_sorted.ensures
          w.write_sorted.auto.out,
      omega arith,
      omega arith,
    )

shape_of-out : tie.Need-shape_of-out
shape_of-out c = search rules

returns : tie.Need-returns
returns c =
    let w = c in
    let d = w in
    let a = d in
    let sealed = c.seal.ensures in
    sorted-sealed a.requires.0 a.args.out.now a.requires.1 d.copy_front.ensures w.write_sorted.new.out w.write_sorted.ensures
    w.write_sorted.auto.out sealed.0 sealed.1

pub sort_into_spec : {M : Type 1} → statement M
sort_into_spec =
    tie.close
    (tie.spec
    copy_front-requires
    slice_bounds-table-end
    slice_bounds-write_sorted-end
    write_sorted-requires
    overflow_add-s
    seal-requires
    shape_of-out
    returns)
