-- `tree_order::merging::turn` meets its contract.
use Rattle.std.proofs.Common.{◌++◌, ◌+◌, take, drop, refl, sym, ap, ◌∙◌, arith}
use Rattle.tree_order.specs.Tables.{first_size}
use Rattle.tree_order.proofs.MergeTurn.{advanced, starts-within, some_right, room_left, room_right, turned_left, turned_right, suffix, copies_first}
use Rattle.tree_order.proofs.merging.turn.Goals as goal

pub offset_bounds-at-m : goal.offset_bounds-at-m
offset_bounds-at-m c = omega (arith, starts-within c.requires.0 c.args.at.now c.args.m.left c.requires.2 c.requires.1.left_stands)

pub slice_bounds-copy_first-count : goal.slice_bounds-copy_first-count
slice_bounds-copy_first-count c = omega (arith, starts-within c.requires.0 c.args.at.now c.args.m.left c.requires.2 c.requires.1.left_stands)

pub slice_bounds-copy_first-start : goal.slice_bounds-copy_first-start
slice_bounds-copy_first-start c = omega (arith, starts-within c.requires.0 c.args.at.now c.args.m.left c.requires.2 c.requires.1.left_stands)

pub copy_first-n-requires : goal.copy_first-n-requires
copy_first-n-requires c =
    let a = c.args in
    copies_first c.requires.0 a.at.now a.spare.now a.m.left a.m.to c.requires.2 c.requires.1.left_stands
    (room_left c.requires.0 a.at.now a.m c.requires.1 c.requires.2 a.spare.now c.requires.3
    (advanced c.requires.0 a.at.now a.m.left c.requires.2 c.requires.1.left_stands refl))

pub overflow_add-result : goal.overflow_add-result
overflow_add-result c =
    let size = c.copy_first-n.ensures.value ∙ ap (first_size c.args.ends.now) (suffix c.args.at.now c.args.m.left) in
    omega (arith, (advanced c.requires.0 c.args.at.now c.args.m.left c.requires.2 c.requires.1.left_stands size).is_within)

pub returns-then-takes_left : goal.returns-then-takes_left
returns-then-takes_left c =
    let a = c.args in
    let n = c.copy_first-n.result in
    turned_left c.requires.0 a.at.now a.m c.requires.1 c.requires.2 a.spare.now c.copy_first-n.new.spare c.requires.3
    (advanced c.requires.0 a.at.now a.m.left c.requires.2 c.requires.1.left_stands
    (c.copy_first-n.ensures.value ∙ ap (first_size a.ends.now) (suffix a.at.now a.m.left)))
    (sym c.takes_left.ensures ∙ c.if-takes_left.true)
    (c.copy_first-n.ensures.spare_after ∙
    ap (λ l. take a.m.to a.spare.now ++ take n l ++ drop (a.m.to + n) a.spare.now) (suffix a.at.now a.m.left))

pub copy_first-n-requires-2 : goal.copy_first-n-requires-2
copy_first-n-requires-2 c =
    let a = c.args in
    let some = some_right c.requires.0 a.at.now a.m c.requires.1 c.requires.2 (sym c.takes_left.ensures ∙ c.if-takes_left.false) in
    copies_first c.requires.0 a.at.now a.spare.now a.m.right a.m.to some c.requires.1.right_stands
    (room_right c.requires.0 a.at.now a.m c.requires.1 c.requires.2 a.spare.now c.requires.3
    (advanced c.requires.0 a.at.now a.m.right some c.requires.1.right_stands refl))

pub overflow_sub-result-2 : goal.overflow_sub-result-2
overflow_sub-result-2 c =
    let late = sym c.takes_left.ensures ∙ c.if-takes_left.false in
    omega (arith, some_right c.requires.0 c.args.at.now c.args.m c.requires.1 c.requires.2 late)

pub returns : goal.returns
returns c =
    let a = c.args in
    let n = c.copy_first-n-2.result in
    let late = sym c.takes_left.ensures ∙ c.if-takes_left.false in
    let some = some_right c.requires.0 a.at.now a.m c.requires.1 c.requires.2 late in
    turned_right c.requires.0 a.at.now a.m c.requires.1 c.requires.2 a.spare.now c.copy_first-n-2.new.spare c.requires.3
    (advanced c.requires.0 a.at.now a.m.right some c.requires.1.right_stands
    (c.copy_first-n-2.ensures.value ∙ ap (first_size a.ends.now) (suffix a.at.now a.m.right)))
    late
    (c.copy_first-n-2.ensures.spare_after ∙
    ap (λ l. take a.m.to a.spare.now ++ take n l ++ drop (a.m.to + n) a.spare.now) (suffix a.at.now a.m.right))
