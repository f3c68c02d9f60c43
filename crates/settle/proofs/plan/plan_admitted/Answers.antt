-- `settle::plan::plan_admitted` meets its contract: 12 and 13 in this order.
use Rattle.std.proofs.Common.{refl, false, arith}
use Rattle.std.proofs.lemmas.Result.{err_from_is_err_and}
use lib.ListN.{length-replicate}
use Rattle.rows.specs.declared.refusals.Refusal.TheVariants.{NotSettled}
use Rattle.checking.proofs.CheckedSheets.{sheet_readable}
use Rattle.polarity.proofs.Marks.{unmarked, numbered_covers}
use Rattle.elimination.proofs.Admitting.{sheet-numbered}
use Rattle.elimination.proofs.Refusing.{none_of, some_of}
use Rattle.settle.proofs.Deciding.{not_settled, no_room, planned}
use Rattle.settle.proofs.plan.plan_admitted.Goals as goal

pub fill_signs-requires : goal.fill_signs-requires
fill_signs-requires c =
    let sheet = c.requires.1.sheet in
    (sheet_readable sheet, unmarked 4100, numbered_covers (sheet-numbered sheet) (omega (arith, length-replicate 4100 false)))

pub value_at-requires : goal.value_at-requires
value_at-requires c = (sheet_readable c.requires.1.sheet, c.requires.1.named.inside, c.fill_signs.ensures)

pub returns-in_err-value : goal.returns-in_err-value
returns-in_err-value c =
    let p = err_from_is_err_and c.from_residual.result c.from_residual.ensures.1 in
    let none = none_of c.value_at.result NotSettled c.in_err-value.ensures.value in
    rw (p.1, p.2, none.0) (not_settled c.requires.1 c.args.room c.value_at.result c.value_at.ensures none.1)

pub returns-then-room-sheet_length : goal.returns-then-room-sheet_length
returns-then-room-sheet_length c =
    no_room c.requires.1 c.args.room c.value_at.result c.value_at.ensures (some_of c.value_at.result NotSettled c.in_ok-value.ensures.value)
    (omega (arith, c.sheet_length.ensures, c.if-room-sheet_length.true))

pub returns : goal.returns
returns c = (
  refl,
  planned c.requires.1 c.args.room c.value_at.result c.value_at.ensures _
      (some_of c.value_at.result NotSettled c.in_ok-value.ensures.value)
      (omega (arith, c.sheet_length.ensures, c.if-room-sheet_length.false)),
)
