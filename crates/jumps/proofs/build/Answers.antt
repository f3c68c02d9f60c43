-- `jumps::build` meets its contract: the tables that `wire` fills over the ends that `fill_ends` finds evaluate the matrix.
use Rattle.std.proofs.Common.{sym, subst, arith}
use Rattle.rows.specs.Formulas.{node_rows_in, matrix_in}
use Rattle.jumps.specs.Jumps.{Targets}
use Rattle.rows.proofs.Formulas.{one_tree, length-nodes}
use Rattle.jumps.proofs.Rows.{end_entry}
use Rattle.jumps.proofs.Jumps.{jumps}
use Rattle.jumps.proofs.build.Goals as goal

pub returns : goal.returns
returns c =
    let b = c.args.sheet.now in
    let R = node_rows_in c.args.s b in
    let all = length-nodes b c.requires.0 in
    jumps R _ _ _ (λ i h. end_entry b c.requires.0 i (omega (arith, all)) _ c.fill_ends.ensures.indexed) (subst (Targets R _ _ _) (sym all) c.wire.ensures)
    (matrix_in c.args.s b) (sym (one_tree b c.requires.0))
