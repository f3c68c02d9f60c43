-- The goals of `clauses::write::write_implied`. Assumes nothing.
use mathlib.Core.Bool.{Bool}
use borrow.Author.Tests.{not-true, not-false}
use Rattle.std.proofs.Common.{sym, ap, subst, [], ◌∷◌, length, slice_index_or, arith}
use Rattle.sheet.specs.Format.{row}
use Rattle.rows.proofs.Limits.{number_fits}
use Rattle.substitution.specs.Output.{Laid}
use Rattle.substitution.proofs.Splice.{none-laid, laid_on}
use Rattle.raw.proofs.Raws.{room_on}
use Rattle.clauses.specs.Inner.Writing.{implied_rows}
use Rattle.clauses.proofs.write.write_implied.Goals as goal

pub returns-then-not-child : goal.returns-then-not-child
returns-then-not-child c =
    let a = c.args in
    subst (Laid a.child.layout a.out.now a.out.now a.child.at a.child.at)
    (sym (ap (λ (m : Bool). implied_rows m (slice_index_or a.names.now a.child.operator 0)) (not-true a.child.each c.if-not-child.true)))
    (none-laid a.child.layout a.out.now a.child.at)

pub write_row-at-requires : goal.write_row-at-requires
write_row-at-requires c =
    let two = ap (λ (m : Bool). length (implied_rows m 0)) (not-false c.args.child.each c.if-not-child.false) in
    (c.requires.1, omega (arith, c.requires.2, two), number_fits c.args.child.layout.format (omega arith))

pub write_row-requires : goal.write_row-requires
write_row-requires c =
    let child = c.args.child in
    let two = ap (λ (m : Bool). length (implied_rows m 0)) (not-false child.each c.if-not-child.false) in (
      room_on c.requires.1 c.write_row-at.auto.out,
      omega (arith, c.requires.2, two, c.write_row-at.ensures.next_row),
      number_fits child.layout.format (omega (arith, c.type_inv.names child.operator)),
    )

pub returns : goal.returns
returns c =
    let a = c.args in
    let name = slice_index_or a.names.now a.child.operator 0 in
    subst (Laid a.child.layout a.out.now _ a.child.at _)
    (sym (ap (λ (m : Bool). implied_rows m name) (not-false a.child.each c.if-not-child.false)))
    (laid_on {rs = row 6 2 ∷ []} {ss = row 4 name ∷ []} c.write_row-at.ensures c.write_row.ensures)
