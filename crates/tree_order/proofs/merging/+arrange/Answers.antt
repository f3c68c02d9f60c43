-- The goals of `tree_order::merging::arrange`. Assumes nothing.
use mathlib.Core.Path.{◌≡◌, refl, ap}
use mathlib.Core.List.{List}
use Prim.Native.Nat.{ℕ, ◌-◌, ◌/◌, ◌≤◌}
use native.Mathlib.Omega.{arith}
use lib.ListN.{length, take, drop, length-drop}
use borrow.Rule.Slice.PartMut.{same_len_mid}
use Rattle.tree_order.proofs.MergeTurn.{first-sized, suffix}
use Rattle.tree_order.proofs.Halves.{none-arranged, one_arranged, half_stands, middle-within, lent-stands, halves-within, halves-ready, halves-merged}
use Rattle.tree_order.proofs.merging.+arrange.Goals as goal

half_less : (n : ℕ) → n / 2 ≤ n
half_less n = omega arith

pub returns-then-k-eq0 : goal.returns-then-k-eq0
returns-then-k-eq0 t c =
    let none = none-arranged c.requires.1 c.if-k-eq0.true in
    record { at_after = none.0; value = none.1 }

pub first_size-requires : goal.first_size-requires
first_size-requires t c = first-sized c.requires.0 c.args.at.now (omega arith) c.requires.1

pub returns-then-k-eq1 : goal.returns-then-k-eq1
returns-then-k-eq1 t c =
    let one = one_arranged c.requires.1 c.requires.0 c.if-k-eq1.true c.first_size.ensures in
    record { at_after = one.0; value = one.1 }

pub arrange-middle-requires : goal.arrange-middle-requires
arrange-middle-requires t c =
    (omega (arith, c.decreases), (c.requires.0, half_stands c.args.at.now c.requires.1 (half_less c.args.k), c.requires.2))

pub offset_bounds-at-middle : goal.offset_bounds-at-middle
offset_bounds-at-middle t c =
    omega (
      arith,
      middle-within
          c.args.at.now
          c.requires.1
          (half_less c.args.k)
          c.arrange-middle.new.at
          c.arrange-middle.ensures.at_after
          c.arrange-middle.ensures.value,
    )

pub slice_bounds-arrange-count : goal.slice_bounds-arrange-count
slice_bounds-arrange-count t c =
    middle-within c.args.at.now c.requires.1 (half_less c.args.k) c.arrange-middle.new.at c.arrange-middle.ensures.at_after c.arrange-middle.ensures.value

pub slice_bounds-arrange-start : goal.slice_bounds-arrange-start
slice_bounds-arrange-start t c =
    omega (
      arith,
      middle-within
          c.args.at.now
          c.requires.1
          (half_less c.args.k)
          c.arrange-middle.new.at
          c.arrange-middle.ensures.at_after
          c.arrange-middle.ensures.value,
    )

-- the part of the table that is lent for the second half is no longer than the other table
lent_length : (at spare at₁ spare₁ : List ℕ) (middle : ℕ) → length at ≤ length spare → length at₁ ≡ length at → length spare₁ ≡ length spare
    → length (take (length at₁ - middle) (drop middle at₁)) ≤ length spare₁
lent_length at spare at₁ spare₁ middle h e f = omega (arith, ap length (suffix at₁ middle), length-drop middle at₁)

pub arrange-end-requires : goal.arrange-end-requires
arrange-end-requires t c = (
  omega (arith, c.decreases),
  (
    c.requires.0,
    lent-stands c.args.at.now c.requires.1 (half_less c.args.k) c.arrange-middle.new.at c.arrange-middle.ensures.at_after c.arrange-middle.ensures.value,
    lent_length
        c.args.at.now
        c.args.spare.now
        c.arrange-middle.new.at
        c.arrange-middle.new.spare
        c.arrange-middle.result
        c.requires.2
        c.arrange-middle.auto.at
        c.arrange-middle.auto.spare,
  ),
)

pub merge-requires : goal.merge-requires
merge-requires t c = (
  c.requires.0,
  halves-ready
      c.args.at.now
      c.requires.1
      (half_less c.args.k)
      c.arrange-middle.new.at
      c.arrange-middle.ensures.at_after
      c.arrange-middle.ensures.value
      c.arrange-end.new.at
      c.arrange-end.ensures.at_after
      c.arrange-end.ensures.value,
  refl,
  omega (
    arith,
    same_len_mid c.arrange-middle.result (length c.arrange-middle.new.at - c.arrange-middle.result) c.arrange-middle.new.at c.arrange-end.new.at
        c.arrange-end.auto.at,
    c.arrange-middle.auto.at,
    c.arrange-middle.auto.spare,
    c.arrange-end.auto.spare,
    c.requires.2,
  ),
)

pub overflow_add-result : goal.overflow_add-result
overflow_add-result t c =
    omega (
      arith,
      halves-within
          c.args.at.now
          c.requires.1
          (half_less c.args.k)
          c.arrange-middle.new.at
          c.arrange-middle.ensures.at_after
          c.arrange-middle.ensures.value
          c.arrange-end.new.at
          c.arrange-end.ensures.at_after
          c.arrange-end.ensures.value,
      same_len_mid c.arrange-middle.result (length c.arrange-middle.new.at - c.arrange-middle.result) c.arrange-middle.new.at c.arrange-end.new.at
          c.arrange-end.auto.at,
      c.arrange-middle.auto.at,
      c.well_formed,
    )

pub returns : goal.returns
returns t c =
    let whole =
    halves-merged
    c.args.at.now
    c.requires.1
    (half_less c.args.k)
    c.arrange-middle.new.at
    c.arrange-middle.ensures.at_after
    c.arrange-middle.ensures.value
    c.arrange-end.new.at
    c.arrange-end.ensures.at_after
    c.arrange-end.ensures.value
    c.merge.new.at
    c.merge.ensures
    in
    record { at_after = whole.0; value = whole.1 }
