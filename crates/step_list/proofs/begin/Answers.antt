-- `step_list::begin` meets its contract: the tests of the whole list.
-- Assumes nothing.
use Rattle.std.proofs.Common.{◌≤◌, ◌∙◌, refl, ap, length, take, drop, arith}
use Rattle.std.proofs.lemmas.Result.{err_from_is_err_and}
use lib.Seq.{take-append_seam}
use Rattle.rows.specs.Formats.{format_of}
use Rattle.checking.proofs.CheckedSheets.{sheet_checked}
use Rattle.step_list.specs.Inner.Turns.{room}
use Rattle.step_list.proofs.Whole.{unchecked, no_room, has_room}
use Rattle.step_list.proofs.begin.Goals as goal

pub returns-in_err-check : goal.returns-in_err-check
returns-in_err-check c =
    let a = c.args in
    let p = err_from_is_err_and c.from_residual.result c.from_residual.ensures.1 in
    rw (p.1, p.2) (unchecked (format_of a.f) a.sheet.now a.first.now a.second.now c.in_err-check.ensures.answer, refl)

pub returns-then-shorter-sheet : goal.returns-then-shorter-sheet
returns-then-shorter-sheet c =
    let a = c.args in
    let s = c.in_ok-check.ensures in (
      no_room (format_of a.f) a.sheet.now a.first.now a.second.now (sheet_checked s.answer s.format).tests_pass
          (omega (arith, c.shorter.ensures, c.if-shorter-sheet.true)),
      refl,
    )

pub returns : goal.returns
returns c =
    let a = c.args in
    let b = a.sheet.now in
    let s = c.in_ok-check.ensures in
    let fits : length b ≤ room a.first.now a.second.now = omega (arith, c.shorter.ensures, c.if-shorter-sheet.false) in (
      has_room (format_of a.f) b a.first.now a.second.now (sheet_checked s.answer s.format).tests_pass fits,
      fits,
      ap (take (length b)) c.copy_front.ensures ∙ take-append_seam b (drop (length b) a.first.now),
      c.copy_front.auto.out,
    )
