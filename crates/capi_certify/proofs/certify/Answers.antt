-- `capi_certify::certify` packs what `certify` answers, and its number claims what the answer does.
-- Assumes nothing.
use Rattle.std.proofs.Common.{◌∙◌, ap}
use Rattle.capi_certify.specs.Packed.{side_numbered, packed_certified}
use Rattle.capi_certify.proofs.Telling.{certify_told}
use Rattle.capi_certify.proofs.certify.Goals as goal

pub returns-clause-told_certify : goal.returns-clause-told_certify
returns-clause-told_certify c =
    let a = c.args in
    (certify_told a.f a.sheet.now (side_numbered a.verdict) a.heads.now a.codes.now
    (c.pack_certified.ensures ∙ ap packed_certified c.certify.ensures.result_value)).1
