-- `elimination::expanding::expand_into` meets its contract.
use Rattle.std.proofs.Common.{refl, sym}
use lib.Seq.{length-take-le}
use Rattle.elimination.proofs.Copies.{expandable, occurs, found, raw-written, sheet-written, layout-written, sizes-written}
use Rattle.elimination.proofs.expanding.expand_into.Goals as goal

pub slice_bounds-write_raw-end-2 : goal.slice_bounds-write_raw-end-2
slice_bounds-write_raw-end-2 c = sym (length-take-le c.args.w.cuts c.args.cuts.now c.requires.prepared.few_cuts)

pub write_raw-requires : goal.write_raw-requires
write_raw-requires c =
    let is = c.fill_both.ensures in
    (expandable c.requires is c.args.out.now refl, occurs c.requires is, found c.requires is)

pub tidy_in_place-requires : goal.tidy_in_place-requires
tidy_in_place-requires c = raw-written c.requires c.fill_both.ensures refl c.write_raw.auto.out c.write_raw.ensures

pub returns : goal.returns
returns c =
    let is = c.fill_both.ensures in
    let same = c.write_raw.auto.out in
    let e = c.tidy_in_place.ensures in
    record {
      out_after = sheet-written c.requires is refl same c.write_raw.ensures e.b_after;
      value = layout-written c.requires is refl same c.write_raw.ensures e.value;
      variables_value = sizes-written c.requires is refl same c.write_raw.ensures c.tidy_in_place.result e.variables_value;
    }
