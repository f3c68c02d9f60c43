-- `sets::add` meets its contract. Assumes nothing.
use borrow.Author.Rules.{rules}
use lib.ListN.{length-set}
use Rattle.sets.proofs.Members.{holds-set}
use Rattle.sets.proofs.add.Statement.{statement}
use Rattle.sets.proofs.add.Tie as tie

offset_bounds-set-i : tie.Need-offset_bounds-set-i
offset_bounds-set-i c = search rules

bounds-set-i : tie.Need-bounds-set-i
bounds-set-i c = search rules

overflow_shl-set : tie.Need-overflow_shl-set
overflow_shl-set c = search rules

offset_bounds-set-i-2 : tie.Need-offset_bounds-set-i-2
offset_bounds-set-i-2 c = search rules

bounds-set-i-2 : tie.Need-bounds-set-i-2
bounds-set-i-2 c = search rules

shape_of-set : tie.Need-shape_of-set
shape_of-set c = search rules

returns : tie.Need-returns
returns c =
    let a = c in
    (length-set a.args.set.now _ _, λ u. holds-set a.args.set.now a.args.v a.requires u)

pub add_spec : {M : Type 1} → statement M
add_spec =
    tie.close
    (tie.spec
    offset_bounds-set-i
    bounds-set-i
    overflow_shl-set
    offset_bounds-set-i-2
    bounds-set-i-2
    shape_of-set
    returns)
