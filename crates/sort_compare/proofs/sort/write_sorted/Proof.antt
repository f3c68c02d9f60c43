-- `sort_compare::sort::write_sorted` meets its contract. Assumes nothing.
use mathlib.Core.Path.{ap, ◌∙◌}
use mathlib.Core.List.{◌++◌}
use lib.ListN.{take}
use Rattle.rows.specs.Layouts.{rows_in}
use Rattle.sort_compare.proofs.sort.write_sorted.Statement.{statement}
use Rattle.sort_compare.proofs.sort.write_sorted.Tie as tie

sort_rows-requires : tie.Need-sort_rows-requires
sort_rows-requires c κs =
    let a = c in
    (a.requires.0, a.requires.1)

write_nodes-requires : tie.Need-write_nodes-requires
write_nodes-requires c κs =
    let d = c in
    let a = d in
    (a.requires.0, d.sort_rows.ensures.1, d.sort_rows.auto.at ∙ a.requires.1, a.requires.2)

shape_of-at : tie.Need-shape_of-at
shape_of-at c = c.sort_rows.auto.at

shape_of-out : tie.Need-shape_of-out
shape_of-out c = c.write_nodes.auto.out

returns : tie.Need-returns
returns c =
    let d = c in
    let a = d.args in
    c.write_nodes.ensures ∙ ap (λ l. take a.s.variables (rows_in a.s a.out.now) ++ l) d.sort_rows.ensures.0

pub write_sorted_spec : {M : Type 1} → statement M
write_sorted_spec =
    tie.close (tie.spec
    sort_rows-requires
    write_nodes-requires
    shape_of-at
    shape_of-out
    returns)
