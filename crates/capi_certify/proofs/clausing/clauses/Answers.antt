-- `capi_certify::clausing::clauses` packs what `clauses` answers, and its number claims what the answer does.
-- Assumes nothing.
use Rattle.packing.proofs.Telling.{written_joined}
use Rattle.capi_certify.proofs.Clauses.{clauses_told}
use Rattle.capi_certify.proofs.clausing.clauses.Goals as goal

pub returns-clause-told_sheet : goal.returns-clause-told_sheet
returns-clause-told_sheet c =
    let a = c.args in
    (clauses_told a.f a.sheet.now a.out.now
    (written_joined c.pack_written.ensures c.clauses.ensures.out_after)).1
