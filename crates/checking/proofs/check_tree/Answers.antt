-- `checking::check_tree` meets its contract.
use Rattle.std.proofs.Common.{◌≡◌, ◌+◌, length, arith}
use lib.ListN.{length-drop}
use Rattle.sheet.specs.Format.{Bytes}
use Rattle.rows.specs.Layouts.{total, rows_in, Room}
use Rattle.rows.specs.Formulas.{node_rows_in}
use Rattle.rows.specs.declared.Layout.{Layout}
use Rattle.rows.proofs.Layouts.{length-rows_in}
use Rattle.checking.proofs.Debt.{tree_owed, tree_early, tree_whole}
use Rattle.checking.proofs.check_tree.Goals as goal
use Rattle.checking.proofs.check_tree.Goals.{then-reached-ne0-via-then-reached-ne0, then-reached-ne0-via-else-reached-ne0+then-reached-s}

end : (s : Layout) (b : Bytes) → Room s (length b) → total s ≡ s.variables + length (node_rows_in s b)
unfolding node_rows_in
end s b room = omega (arith, length-rows_in b room, length-drop s.variables (rows_in s b))

pub returns-then-reached-ne0 : goal.returns-then-reached-ne0
unfolding node_rows_in
returns-then-reached-ne0 c =
    let whole = end c.args.s c.args.sheet.now c.requires.room in
    let walked = c.walk-reached in
    elim c.then-reached-ne0.branch [
      | then-reached-ne0-via-then-reached-ne0 w ↦ tree_owed _ _ _ _ whole walked.result walked.ensures w.if-reached-ne0.true
      | then-reached-ne0-via-else-reached-ne0+then-reached-s w ↦
          tree_early _ _ _ _ whole walked.result walked.ensures w.if-reached-ne0.false w.if-reached-s.true
    ]

pub returns : goal.returns
unfolding node_rows_in
returns c =
    tree_whole _ _ _ _ (end c.args.s c.args.sheet.now c.requires.room) c.walk-reached.result c.walk-reached.ensures c.if-reached-ne0.false
    c.if-reached-s.false
