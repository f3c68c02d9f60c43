-- The goals of `clauses::write::write_below`. Assumes nothing.
use mathlib.Core.Bool.{not}
use native.Mathlib.Numerals.{add-one}
use Rattle.std.proofs.Common.{refl, sym, ◌∙◌, subst, ◌+◌, ◌-◌, ◌≤◌, ◌<◌, ◌≡◌, ℕ, eqb, length, slice_index_or, arith}
use Rattle.rows.specs.Layouts.{total}
use Rattle.substitution.specs.Output.{Laid}
use Rattle.substitution.proofs.Splice.{ready_on}
use Rattle.subtrees.specs.Subtrees.{subtree_in}
use Rattle.clauses.proofs.Writing.{below-children, listing_none, listing-all, child-inside, child-room, listing-on}
use Rattle.clauses.proofs.write.write_below.Goals as goal

-- the children left: all at first, and one less a turn

all : (n : ℕ) → n - 0 ≡ n
all n = omega arith

left : {n i : ℕ} → i < n → 0 < n - i
left more = omega (arith, more)

next : {n i : ℕ} → i < n → n - (i + 1) ≡ n - i - 1
next more = omega (arith, more)

pub loop-init : goal.loop-init
loop-init c =
    let a = c.args in
    let h = c.requires.indexed in
    listing_none _ _ _ a.b.now h.0.readable a.place.layout a.out.now a.place.at h.3 (add-one a.place.row)
    (all c.children_at-children.result ∙ c.children_at-children.ensures.0)

pub write_child-at-requires-clause-named : goal.write_child-at-requires-clause-named
write_child-at-requires-clause-named c =
    let a = c.args in
    let h = c.requires.indexed in
    let inside = child-inside _ _ a.names.now a.b.now h.0.readable a.place.layout a.out.now a.place.at c.loop.invariant a.ends.now h.0 (left c.loop-test.true) in
    (h.1, ready_on h.2 c.loop.invariant.same_length, inside, h.3)

pub write_child-at-requires-clause-each_bound : goal.write_child-at-requires-clause-each_bound
write_child-at-requires-clause-each_bound c =
    let a = c.args in
    let h = c.requires.indexed in
    let below = below-children a.names.now a.place.row (subtree_in a.s a.b.now a.place.row) c.kind_at-each.ensures refl in
    child-room (not (eqb c.kind_at-each.result 6)) (slice_index_or a.names.now a.place.row 0) a.names.now a.b.now h.0.readable a.place.layout a.out.now
    a.place.at c.loop.invariant a.ends.now h.0 (left c.loop-test.true)
    (subst (λ rs. a.place.at + length rs ≤ total a.place.layout) below c.requires.row_bound)

pub offset_bounds-ends-r : goal.offset_bounds-ends-r
offset_bounds-ends-r c =
    let a = c.args in
    let h = c.requires.indexed in
    let inside = child-inside _ _ a.names.now a.b.now h.0.readable a.place.layout a.out.now a.place.at c.loop.invariant a.ends.now h.0 (left c.loop-test.true) in
    omega (arith, inside, h.0.readable.few_nodes)

pub bounds-ends-r : goal.bounds-ends-r
bounds-ends-r c =
    let a = c.args in
    let h = c.requires.indexed in
    let inside = child-inside _ _ a.names.now a.b.now h.0.readable a.place.layout a.out.now a.place.at c.loop.invariant a.ends.now h.0 (left c.loop-test.true) in
    omega (arith, inside, h.0.holds)

pub loop-preserved : goal.loop-preserved
loop-preserved c =
    let a = c.args in
    let h = c.requires.indexed in
    listing-on _ _ a.names.now a.b.now h.0.readable a.place.layout a.out.now a.place.at c.loop.invariant a.ends.now h.0 (left c.loop-test.true)
    c.write_child-at.ensures c.write_child-at.auto.out (next c.loop-test.true) c.from-r.ensures

pub returns : goal.returns
returns c =
    let a = c.args in
    let h = c.requires.indexed in
    let below = below-children a.names.now a.place.row (subtree_in a.s a.b.now a.place.row) c.kind_at-each.ensures refl in
    subst (Laid a.place.layout a.out.now c.loop.out a.place.at c.loop.at) (sym below)
    (listing-all _ _ a.names.now a.b.now h.0.readable a.place.layout a.out.now a.place.at c.loop.invariant (omega (arith, c.loop-test.false)))
