-- `capi::lists::plumanchor_steps_wide` packs what `follow_numbers` answers, and its number claims what the answer does.
-- Assumes nothing.
use Rattle.rows.specs.declared.Format.TheVariants.{Wide}
use Rattle.capi.proofs.Telling.{listing_joined, steps_told}
use Rattle.capi.proofs.lists.plumanchor_steps_wide.Goals as goal

pub returns-clause-told_sheet : goal.returns-clause-told_sheet
returns-clause-told_sheet c =
    let a = c.args in
    (steps_told Wide a.sheet.now _ a.first.now a.second.now a.numbers.now a.values.now
    (listing_joined c.pack_written.ensures c.follow_numbers.ensures.second_value)).1
