-- `conversion::is_beyond` meets its contract.
use Rattle.std.proofs.Common.{sym, ◌∙◌, arith}
use borrow.Author.Tests.{ltb-true, ltb-false}
use Rattle.rows.specs.Formats.{format_of}
use Rattle.checking.proofs.CheckedSheets.{sheet_readable}
use Rattle.conversion.proofs.Tests.{many_variables, many_nodes, by_numbers}
use Rattle.conversion.proofs.is_beyond.Goals as goal
use Rattle.conversion.proofs.is_beyond.Goals.{then-variables-s, else-variables-s}

pub has_above-requires : goal.has_above-requires
has_above-requires c = sheet_readable c.requires

pub returns-then-most_nodes-s : goal.returns-then-most_nodes-s
returns-then-most_nodes-s c =
    let G = format_of c.args.g in
    c.if-most_nodes-s.true ∙
    elim c.if-variables-s.branch [
      | then-variables-s w ↦ many_variables G c.requires (omega (arith, w.if-variables-s.true, c.most_variables-variables.ensures))
      | else-variables-s w ↦
          many_nodes G c.requires (omega (arith, ltb-true _ _ (sym w.value-is ∙ c.if-most_nodes-s.true), w.most_nodes.ensures))
    ]

pub returns-else-most_nodes-s : goal.returns-else-most_nodes-s
returns-else-most_nodes-s c =
    let most = c.most_variables-variables.ensures in
    elim c.if-variables-s.branch [
      | then-variables-s w ↦
          absurd (omega (arith, w.if-variables-s.true, ltb-false _ _ (sym w.value-is ∙ c.if-most_nodes-s.false)))
      | else-variables-s w ↦
          by_numbers (format_of c.args.g) c.requires (omega (arith, w.if-variables-s.false, most))
          (omega (arith, ltb-false _ _ (sym w.value-is ∙ c.if-most_nodes-s.false), w.most_nodes.ensures)) (rw (← most) c.has_above.ensures)
    ]
