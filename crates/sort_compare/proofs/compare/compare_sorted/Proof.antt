-- `sort_compare::compare::compare_sorted` meets its contract. Assumes nothing.
use mathlib.Core.Path.{ap₂, ◌∙◌}
use Rattle.tree_order.specs.Rows.{compare_rows}
use Rattle.tree_order.proofs.Rows.{rows-of-trees}
use borrow.Author.Rules.{rules}
use Rattle.sort_compare.proofs.compare.compare_sorted.Statement.{statement}
use Rattle.sort_compare.proofs.compare.compare_sorted.Tie as tie

sort_rows-requires : tie.Need-sort_rows-requires
sort_rows-requires c κs = search rules

sort_rows-requires-2 : tie.Need-sort_rows-requires-2
sort_rows-requires-2 c κs = search rules

compare_rows-requires : tie.Need-compare_rows-requires
compare_rows-requires c κs = search rules

shape_of-at : tie.Need-shape_of-at
shape_of-at c = search rules

shape_of-to : tie.Need-shape_of-to
shape_of-to c = search rules

returns : tie.Need-returns
returns c =
    let second = c in
    let first = second in
    c.compare_rows.ensures ∙ ap₂ compare_rows first.sort_rows.ensures.0 second.sort_rows-2.ensures.0 ∙ rows-of-trees _ _

pub compare_sorted_spec : {M : Type 1} → statement M
compare_sorted_spec =
    tie.close
    (tie.spec
    sort_rows-requires
    sort_rows-requires-2
    compare_rows-requires
    shape_of-at
    shape_of-to
    returns)
