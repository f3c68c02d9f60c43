-- `claim::claim` meets its contract.
use Rattle.std.proofs.lemmas.Result.{err_from_is_err_and}
use Rattle.sheet.proofs.Truthful.{claim_truthful}
use Rattle.rows.specs.Formats.{format_of}
use Rattle.rows.proofs.Limits.{sound}
use Rattle.checking.proofs.CheckedSheets.{refused_as, sheet_own}
use Rattle.claim.specs.Answers.{side_of}
use Rattle.claim.specs.declared.ClaimRefusal.TheVariants.{Sheet, Strategy}
use Rattle.claim.proofs.Answering.{turned_told, kept_sheet, first_call, second_call, checked_call, second_own}
use Rattle.claim.proofs.claim.Goals as goal

pub returns-in_err-s : goal.returns-in_err-s
returns-in_err-s c =
    let a = c.args in
    let q = turned_told Sheet c.check.result c.in_err-s.field-0.0 c.in_err-s.ensures.cases in
    let e = first_call a.f a.sheet.now a.strategy.now a.out.now (side_of a.side) (refused_as q.1 c.check.ensures.answer) in
    let p = err_from_is_err_and c.from_residual.result c.from_residual.ensures.1 in
    rw (p.1, p.2, q.2)
    (record { out_after = e; truthful_claim = claim_truthful (format_of a.f) (sound a.f) a.sheet.now (side_of a.side) a.strategy.now a.out.now e })

pub returns-in_err-t : goal.returns-in_err-t
returns-in_err-t c =
    let a = c.args in
    let one = kept_sheet a.f a.sheet.now c.check.result c.in_ok-s.s c.check.ensures.answer c.check.ensures.format c.in_ok-s.ensures.cases in
    let q = turned_told Strategy c.check-2.result c.in_err-t.field-0.0 c.in_err-t.ensures.cases in
    let e = second_call a.f a.sheet.now a.strategy.now a.out.now (side_of a.side) one (refused_as q.1 c.check-2.ensures.answer) in
    let p = err_from_is_err_and c.from_residual-in_err-t.result c.from_residual-in_err-t.ensures.1 in
    rw (p.1, p.2, q.2)
    (record { out_after = e; truthful_claim = claim_truthful (format_of a.f) (sound a.f) a.sheet.now (side_of a.side) a.strategy.now a.out.now e })

pub claim_checked-requires : goal.claim_checked-requires
claim_checked-requires c =
    let a = c.args in
    let one = kept_sheet a.f a.sheet.now c.check.result c.in_ok-s.s c.check.ensures.answer c.check.ensures.format c.in_ok-s.ensures.cases in
    let two = kept_sheet a.f a.strategy.now c.check-2.result c.in_ok-t.t c.check-2.ensures.answer c.check-2.ensures.format c.in_ok-t.ensures.cases in
    (sheet_own one, second_own one two)

pub returns : goal.returns
returns c =
    let a = c.args in
    let one = kept_sheet a.f a.sheet.now c.check.result c.in_ok-s.s c.check.ensures.answer c.check.ensures.format c.in_ok-s.ensures.cases in
    let e = checked_call a.f a.sheet.now a.strategy.now a.out.now (side_of a.side) c.is_exists.result one c.is_exists.ensures
    c.claim_checked.ensures in
    record { out_after = e; truthful_claim = claim_truthful (format_of a.f) (sound a.f) a.sheet.now (side_of a.side) a.strategy.now a.out.now e }
