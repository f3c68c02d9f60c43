-- `capi::reading::trial` packs what `trial` answers, and its number claims what the answer does.
-- Assumes nothing.
use Rattle.std.proofs.Common.{◌∙◌, ap}
use Rattle.packing.specs.Packed.{packed_trial}
use Rattle.capi.proofs.Telling.{trial_told}
use Rattle.capi.proofs.reading.trial.Goals as goal

pub returns-clause-told_trial : goal.returns-clause-told_trial
returns-clause-told_trial c =
    let a = c.args in
    (trial_told a.f a.sheet.now
    (c.pack_tried.ensures ∙ ap packed_trial c.trial.ensures.result_value)).1
