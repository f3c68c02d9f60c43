-- `clauses::write::write_below`: a child a turn.
use Rattle.std.proofs.Common.{suc, ◌-◌, slice_index_or}
use Rattle.subtrees.specs.Subtrees.{kids, subtree_in}
use Rattle.clauses.proofs.Writing.{children_rows, Listing}
use Rattle.clauses.proofs.write.write_below.Given as goal

abbrev pub invariant-loop : goal.invariant-loop
invariant-loop l =
    let i = l.place.row in
    let name = slice_index_or l.names i 0 in
    Listing l.each name l.names l.s l.b l.place.layout l.initial.out l.initial.at (children_rows l.each name l.names (suc i) (kids (subtree_in l.s l.b i)))
    l.out l.at (l.children - l.counter) l.r
