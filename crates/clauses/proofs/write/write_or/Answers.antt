-- The goals of `clauses::write::write_or`. Assumes nothing.
use native.Mathlib.Numerals.{add-one}
use Rattle.std.proofs.Common.{refl, ap, ◌∙◌, subst, suc, length, arith}
use Rattle.rows.proofs.Limits.{number_fits}
use Rattle.substitution.specs.Output.{Laid}
use Rattle.substitution.proofs.Splice.{laid_on}
use Rattle.raw.proofs.Raws.{room_on}
use Rattle.subtrees.specs.Subtrees.{subtree_in}
use Rattle.clauses.proofs.Writing.{or-conjunct, or-below, few_children}
use Rattle.clauses.proofs.write.write_or.Goals as goal

pub write_row-requires : goal.write_row-requires
write_row-requires c =
    let a = c.args in
    let p = a.place in
    let h = c.requires.named in
    let rows = or-conjunct a.names.now p.row (subtree_in a.s a.b.now p.row) h.3 c.if-place.true c.children_at-children.ensures.0 in (
      h.1.room,
      omega (arith, c.requires.place_bound, ap length rows),
      number_fits p.layout.format (omega (arith, few_children a.b.now h.0.readable h.2 c.children_at-children.ensures.0)),
    )

pub returns-then-place : goal.returns-then-place
returns-then-place c =
    let a = c.args in
    let p = a.place in
    subst (Laid p.layout a.out.now _ p.at _)
    (or-conjunct a.names.now p.row (subtree_in a.s a.b.now p.row) c.requires.named.3 c.if-place.true c.children_at-children.ensures.0) c.write_row.ensures

pub write_row-at-requires : goal.write_row-at-requires
write_row-at-requires c =
    let a = c.args in
    let p = a.place in
    let h = c.requires.named in
    let n = c.children_at-children in
    let rows = or-below a.names.now p.row (subtree_in a.s a.b.now p.row) h.3 c.if-place.false (add-one n.result ∙ ap suc n.ensures.0) refl in (
      h.1.room,
      omega (arith, c.requires.place_bound, ap length rows),
      number_fits p.layout.format (omega (arith, few_children a.b.now h.0.readable h.2 n.ensures.0)),
    )

pub bounds-names-r : goal.bounds-names-r
bounds-names-r c = omega (arith, c.requires.named.2, c.requires.named.0.has_entries)

pub write_row-requires-2 : goal.write_row-requires-2
write_row-requires-2 c =
    let a = c.args in
    let p = a.place in
    let h = c.requires.named in
    let n = c.children_at-children in
    let rows = or-below a.names.now p.row (subtree_in a.s a.b.now p.row) h.3 c.if-place.false (add-one n.result ∙ ap suc n.ensures.0) refl in (
      room_on h.1.room c.write_row-at.auto.out,
      omega (arith, c.requires.place_bound, ap length rows, c.write_row-at.ensures.next_row),
      number_fits p.layout.format (omega (arith, c.type_inv.names p.row)),
    )

pub returns : goal.returns
returns c =
    let a = c.args in
    let p = a.place in
    let n = c.children_at-children in
    subst (Laid p.layout a.out.now _ p.at _)
    (or-below a.names.now p.row (subtree_in a.s a.b.now p.row) c.requires.named.3 c.if-place.false (add-one n.result ∙ ap suc n.ensures.0) refl)
    (laid_on c.write_row-at.ensures c.write_row-2.ensures)
