-- The goals of `clauses::write::write_head`. Assumes nothing.
use borrow.Author.Tests.{not-true, not-false}
use Rattle.std.proofs.Common.{sym, ap, ◌∙◌, subst, length, slice_index_or, arith}
use Rattle.substitution.specs.Output.{Laid}
use Rattle.substitution.proofs.Splice.{none-laid}
use Rattle.subtrees.specs.Subtrees.{subtree_in}
use Rattle.clauses.proofs.Writing.{head-none, head-name, length-name}
use Rattle.clauses.proofs.write.write_head.Goals as goal

pub write_or-requires-clause-named : goal.write_or-requires-clause-named
write_or-requires-clause-named c =
    let h = c.requires.named in
    (h.0, h.1, h.2, sym c.kind_at.ensures ∙ c.if-kind_at-eq-OR.true)

pub returns-then-not-place : goal.returns-then-not-place
returns-then-not-place c =
    let a = c.args in
    let p = a.place in
    subst (Laid p.layout a.out.now a.out.now p.at p.at)
    (head-none a.names.now p.row (subtree_in a.s a.b.now p.row) {c = p.conjunct} c.kind_at.ensures c.if-kind_at-eq-OR.false
    (not-true p.conjunct c.if-not-place.true))
    (none-laid p.layout a.out.now p.at)

pub write_name-requires : goal.write_name-requires
write_name-requires c =
    let a = c.args in
    let p = a.place in
    let h = c.requires.named in
    let here = subtree_in a.s a.b.now p.row in
    let rows = head-name a.names.now p.row here {c = p.conjunct} c.kind_at.ensures c.if-kind_at-eq-OR.false (not-false p.conjunct c.if-not-place.false) in
    (h.0, h.1, h.2, omega (arith, c.requires.place_bound, ap length rows, length-name (slice_index_or a.names.now p.row 0) here))

pub returns : goal.returns
returns c =
    let a = c.args in
    let p = a.place in
    subst (Laid p.layout a.out.now _ p.at _)
    (head-name a.names.now p.row (subtree_in a.s a.b.now p.row) {c = p.conjunct} c.kind_at.ensures c.if-kind_at-eq-OR.false
    (not-false p.conjunct c.if-not-place.false))
    c.write_name.ensures
