-- `outer::outer_into` meets its contract.
use mathlib.Core.Path.{refl}
use native.Mathlib.Omega.{arith}
use Rattle.outer.proofs.Sheets.{few_raw, writes, raw-written, sheet-written, length-written}
use Rattle.outer.proofs.outer_into.Goals as goal

pub write_outer-requires : goal.write_outer-requires
write_outer-requires c = writes c.requires c.args.out.now refl

pub tidy_in_place-t-requires : goal.tidy_in_place-t-requires
tidy_in_place-t-requires c = raw-written c.requires refl c.write_outer.auto.out c.write_outer.ensures

pub sheet_length-requires : goal.sheet_length-requires
sheet_length-requires c =
    let few = few_raw c.requires.planned in
    let sizes = c.tidy_in_place-t.ensures.variables_value in
    (omega (arith, few.0, sizes.0), omega (arith, few.1, sizes.1))

pub returns : goal.returns
returns c =
    let same = c.write_outer.auto.out in
    record {
      out_after = sheet-written c.requires refl same c.write_outer.ensures c.tidy_in_place-t.ensures.b_after;
      value = length-written c.requires refl same c.write_outer.ensures c.tidy_in_place-t.ensures.value c.sheet_length.ensures;
    }
