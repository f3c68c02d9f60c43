-- `conversion::convert` meets its contract.
use Rattle.std.proofs.Common.{refl, ◌∙◌, arith}
use Rattle.conversion.proofs.Written.{room, rows_fit, layout_is, sheet_is}
use Rattle.conversion.proofs.convert.Goals as goal

pub convert_rows-requires : goal.convert_rows-requires
convert_rows-requires c = rows_fit c.requires

pub seal-requires : goal.seal-requires
seal-requires c =
    (record { holds = omega (arith, (room c.requires).holds, c.convert_rows.auto.out) }, omega arith, omega arith)

pub returns : goal.returns
returns c =
    record {
      out_after = c.seal.ensures.b_after ∙ sheet_is c.requires c.args.out.now _ refl c.convert_rows.ensures c.convert_rows.auto.out;
      value = layout_is c.requires;
    }
