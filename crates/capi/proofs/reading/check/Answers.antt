-- `capi::reading::check` packs what `check` answers.
-- Assumes nothing.
use Rattle.std.proofs.Common.{◌∙◌, ap}
use Rattle.checking.specs.Answers.{checked_answer}
use Rattle.packing.specs.Packed.{packed_check}
use Rattle.capi.proofs.reading.check.Goals as goal

pub returns : goal.returns
returns c = c.pack_checked.ensures ∙ ap packed_check c.check.ensures.answer
