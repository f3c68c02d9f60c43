-- `reduce::reduce_into` meets its contract.
use Rattle.std.proofs.Common.{refl, ◌∙◌}
use Rattle.reduce.proofs.Deciding.{sheet-numbered, sheet-clausal, copied, blanked-raw, reduced-output, reduced-length}
use Rattle.reduce.proofs.reduce_into.Goals as goal

pub fill_places-requires : goal.fill_places-requires
fill_places-requires c = (sheet-numbered c.requires, refl)

pub blank_clauses-requires : goal.blank_clauses-requires
blank_clauses-requires c =
    let same = copied c.args.out.now c.requires c.copy_front.ensures in
    (sheet-clausal c.requires c.fill_places.ensures, same.0, same.1)

pub tidy_in_place-t-requires : goal.tidy_in_place-t-requires
tidy_in_place-t-requires c =
    blanked-raw c.args.out.now c.requires _ (c.blank_clauses.auto.out ∙ c.copy_front.auto.out) c.blank_clauses.ensures

pub returns : goal.returns
returns c =
    let a = c.args in
    let room = c.blank_clauses.auto.out ∙ c.copy_front.auto.out in
    let t = c.tidy_in_place-t.ensures in
    record {
      out_after = reduced-output a.out.now c.requires _ room c.blank_clauses.ensures t.b_after;
      value = c.sheet_length.ensures ∙ reduced-length a.out.now c.requires _ room c.blank_clauses.ensures t.value;
    }
