-- `sort_compare::compare::compare_trees` meets its contract. Assumes nothing.
use mathlib.Core.Path.{sym}
use Rattle.sort_compare.proofs.Written.{part_length}
use borrow.Author.Rules.{rules}
use Rattle.sort_compare.proofs.compare.compare_trees.Statement.{statement}
use Rattle.sort_compare.proofs.compare.compare_trees.Tie as tie

slice_bounds-at-end : tie.Need-slice_bounds-at-end
slice_bounds-at-end c = search rules

slice_bounds-compare_sorted-end : tie.Need-slice_bounds-compare_sorted-end
slice_bounds-compare_sorted-end c = sym (part_length 8192 _ c.requires.0.few_nodes)

slice_bounds-to-end : tie.Need-slice_bounds-to-end
slice_bounds-to-end c = search rules

slice_bounds-compare_sorted-end-2 : tie.Need-slice_bounds-compare_sorted-end-2
slice_bounds-compare_sorted-end-2 c = sym (part_length 8192 _ c.requires.1.few_nodes)

compare_sorted-requires : tie.Need-compare_sorted-requires
compare_sorted-requires c κs =
    let a = c in
    (a.requires.0, part_length 8192 _ a.requires.0.few_nodes, a.requires.1, part_length 8192 _ a.requires.1.few_nodes)

returns : tie.Need-returns
returns c = search rules

pub compare_trees_spec : {M : Type 1} → statement M
compare_trees_spec =
    tie.close
    (tie.spec
    slice_bounds-at-end
    slice_bounds-compare_sorted-end
    slice_bounds-to-end
    slice_bounds-compare_sorted-end-2
    compare_sorted-requires
    returns)
