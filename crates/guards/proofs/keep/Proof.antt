-- `guards::keep` meets its contract. Assumes nothing.
use mathlib.Core.Path.{sym, ap}
use native.Mathlib.Omega.{arith}
use lib.Seq.{length-take-le}
use Rattle.rows.specs.declared.Layout.{Layout}
use Rattle.checking.proofs.CheckedSheets.{sheet_readable}
use Rattle.guards.proofs.Deciding.{kept-room, kept-told}
use borrow.Author.Rules.{rules}
use Rattle.guards.proofs.keep.Statement.{statement}
use Rattle.guards.proofs.keep.Tie as tie

slice_bounds-fill_ends-end : tie.Need-slice_bounds-fill_ends-end
slice_bounds-fill_ends-end c = search rules

fill_ends-requires : tie.Need-fill_ends-requires
fill_ends-requires c κs =
    let r = sheet_readable c.requires.0.sheet in
    (r, omega (arith, r.few_nodes))

slice_bounds-sift-end : tie.Need-slice_bounds-sift-end
slice_bounds-sift-end c = search rules

slice_bounds-sift-end-2 : tie.Need-slice_bounds-sift-end-2
slice_bounds-sift-end-2 c = search rules

sift-g-requires : tie.Need-sift-g-requires
sift-g-requires c κs = search rules

slice_bounds-write_selection-end : tie.Need-slice_bounds-write_selection-end
slice_bounds-write_selection-end c = search rules

slice_bounds-kept-end : tie.Need-slice_bounds-kept-end
slice_bounds-kept-end c = search rules

slice_bounds-write_selection-end-2 : tie.Need-slice_bounds-write_selection-end-2
slice_bounds-write_selection-end-2 c =
    let made = c.sift-g in
    sym (length-take-le made.result.guards made.new.kept (search rules))

write_selection-t-requires : tie.Need-write_selection-t-requires
write_selection-t-requires c κs = search rules

overflow_add-t : tie.Need-overflow_add-t
overflow_add-t c =
    let wrote = c in
    let e = wrote.write_selection-t.ensures.0 in
    let z = wrote.sift-g.ensures.chosen in
    omega (arith, ap (λ (l : Layout). l.variables) e, ap (λ (l : Layout). l.nodes) e, z.no_more, z.readable.few_variables, z.readable.few_nodes)

seal-length-requires : tie.Need-seal-length-requires
seal-length-requires c κs =
    let wrote = c in
    let a = wrote in
    let part = wrote.write_selection-t in (
      kept-room wrote.sift-g.ensures part.result part.ensures.0 part.new.out a.args.out.now
          part.auto.out a.requires.1,
      omega arith,
      omega arith,
    )

shape_of-out : tie.Need-shape_of-out
shape_of-out c = search rules

shape_of-first : tie.Need-shape_of-first
shape_of-first c = search rules

shape_of-second : tie.Need-shape_of-second
shape_of-second c = search rules

returns : tie.Need-returns
returns c =
    let sealed = c in
    let wrote = sealed in
    let a = wrote in
    let part = wrote.write_selection-t in
    kept-told wrote.sift-g.ensures part.result part.ensures.0 _ a.args.out.now part.auto.out a.requires.1
    part.ensures.1 sealed.seal-length.ensures.1 sealed.seal-length.ensures.0

pub keep_spec : {M : Type 1} → statement M
keep_spec =
    tie.close
    (tie.spec
    slice_bounds-fill_ends-end
    fill_ends-requires
    slice_bounds-sift-end
    slice_bounds-sift-end-2
    sift-g-requires
    slice_bounds-write_selection-end
    slice_bounds-kept-end
    slice_bounds-write_selection-end-2
    write_selection-t-requires
    overflow_add-t
    seal-length-requires
    shape_of-out
    shape_of-first
    shape_of-second
    returns)
