-- `guards::sift::sift` meets its contract: a child a turn. Assumes nothing.
use mathlib.Core.Path.{◌≡◌, refl, sym, ap, ap₂, ◌∙◌, subst, subst₂}
use Prim.Native.Nat.{ℕ, ◌+◌, ◌-◌, ◌≤◌, ◌<◌, min}
use native.Mathlib.Omega.{arith}
use lib.ListN.{length, get_or, length-set}
use lib.Seq.{length-take-le}
use Rattle.formula.specs.Tree.{Forest}
use Rattle.formula.specs.Guards.{says}
use Rattle.sheet.specs.Format.{fits}
use Rattle.sheet.specs.Trace.{room}
use Rattle.rows.specs.Layouts.{format_in}
use Rattle.rows.specs.Formulas.{prefix_in}
use Rattle.subtrees.proofs.Siblings.{Walked}
use Rattle.guards.specs.declared.selection.Selection.{Selection}
use Rattle.guards.specs.declared.sift.Sieve.{Sieve}
use Rattle.guards.specs.Inner.Selections.{Tried}
use Rattle.guards.specs.Inner.Sieves.{starts, Says}
use Rattle.guards.proofs.Trying.{part_raw, part_said}
use Rattle.guards.proofs.SiftTurn.{Sifting, judged-left, kept_few, first_turn, last_turn, walked, left_few, tried, tried_read, next_turn}
use borrow.Author.Rules.{rules}
use Rattle.guards.proofs.sift.sift.Statement.{statement}
use Rattle.guards.proofs.sift.sift.Tie as tie

abbrev invariant-loop-g : tie.invariant-loop-g
invariant-loop-g b s ends kept₀ first₀ second₀ g₀ kept first second g =
    Sifting s b (room first₀ second₀) ends kept g × (length kept ≡ length kept₀) × (length first ≡ length first₀) ×
    (length second ≡ length second₀)

abbrev decreases-loop-g : tie.decreases-loop-g
decreases-loop-g b s ends kept₀ first₀ second₀ g₀ kept first second g = g.left

-- places in the code, each from a later one
abbrev to_after_children_at : tie.In-loop-g invariant-loop-g decreases-loop-g → tie.After-children_at invariant-loop-g decreases-loop-g
to_after_children_at c = c.before.before.before

abbrev to_after_slice_known_1 : tie.After-children_at invariant-loop-g decreases-loop-g → tie.After-slice_known-1 invariant-loop-g decreases-loop-g
to_after_slice_known_1 c = c.before.before.before

abbrev to_start : tie.After-slice_known-1 invariant-loop-g decreases-loop-g → tie.Start invariant-loop-g decreases-loop-g
to_start c = c.before.before.before

abbrev to_in_loop_g : tie.After-struct_known-in-loop-g-2-1 invariant-loop-g decreases-loop-g → tie.In-loop-g invariant-loop-g decreases-loop-g
to_in_loop_g c = c.before.before.before

abbrev to_after_write_selection_t : tie.After-run_raw-arg-1 invariant-loop-g decreases-loop-g → tie.After-write_selection-t invariant-loop-g decreases-loop-g
to_after_write_selection_t c = c.before.before.before

abbrev to_after_struct_known_in_loop_g_2_1 : tie.After-write_selection-t invariant-loop-g decreases-loop-g → tie.After-struct_known-in-loop-g-2-1 invariant-loop-g decreases-loop-g
to_after_struct_known_in_loop_g_2_1 c = c.before.before.before

abbrev to_after_first_in_loop_g_1 : tie.After-slice_known-in-loop-g-3-1 invariant-loop-g decreases-loop-g → tie.After-first-in-loop-g-1 invariant-loop-g decreases-loop-g
to_after_first_in_loop_g_1 c = c.before.before.before

abbrev to_after_run_raw_arg_1 : tie.After-first-in-loop-g-1 invariant-loop-g decreases-loop-g → tie.After-run_raw-arg-1 invariant-loop-g decreases-loop-g
to_after_run_raw_arg_1 c = c.before.before.before

abbrev to_after_slice_known_in_loop_g_2_1 : tie.After-heard-said invariant-loop-g decreases-loop-g → tie.After-slice_known-in-loop-g-2-1 invariant-loop-g decreases-loop-g
to_after_slice_known_in_loop_g_2_1 c = c.before.before.before

abbrev to_after_run_raw_arg_in_loop_g_1 : tie.After-slice_known-in-loop-g-2-1 invariant-loop-g decreases-loop-g → tie.After-run_raw-arg-in-loop-g-1 invariant-loop-g decreases-loop-g
to_after_run_raw_arg_in_loop_g_1 c = c.before.before.before

abbrev to_after_first_1 : tie.After-run_raw-arg-in-loop-g-1 invariant-loop-g decreases-loop-g → tie.After-first-1 invariant-loop-g decreases-loop-g
to_after_first_1 c = c.before.before.before

abbrev to_after_struct_known_in_loop_g_3_1 : tie.After-first-1 invariant-loop-g decreases-loop-g → tie.After-struct_known-in-loop-g-3-1 invariant-loop-g decreases-loop-g
to_after_struct_known_in_loop_g_3_1 c = c.before.before.before

abbrev to_after_shared_slice_known_in_loop_g_1 : tie.After-struct_known-in-loop-g-3-1 invariant-loop-g decreases-loop-g → tie.After-shared_slice_known-in-loop-g-1 invariant-loop-g decreases-loop-g
to_after_shared_slice_known_in_loop_g_1 c = c.before.before.before

abbrev to_at_loop_g : tie.After-shared_slice_known-in-loop-g-1 invariant-loop-g decreases-loop-g → tie.At-loop-g invariant-loop-g decreases-loop-g
to_at_loop_g c = c.before.before.before

abbrev to_after_children_at_from_after_loop_g : tie.After-loop-g invariant-loop-g decreases-loop-g → tie.After-children_at invariant-loop-g decreases-loop-g
to_after_children_at_from_after_loop_g c = c.before.before.before

-- where the function begins, and a turn: a child is left, the rows of its try are written, the run is heard
abbrev most : tie.Start invariant-loop-g decreases-loop-g → ℕ
most a = room a.args.first.now a.args.second.now

-- where the child at hand ends
abbrev end : tie.At-loop-g invariant-loop-g decreases-loop-g → ℕ
end c = get_or c.args.ends.now c.loop-g.g.at 0

more : (c : tie.In-loop-g invariant-loop-g decreases-loop-g) → 0 < c.loop-g.g.left
more c = omega (arith, c.loop-g-test.true)

walk : (c : tie.In-loop-g invariant-loop-g decreases-loop-g)
    → let a = c.args in
    Walked a.s a.b.now a.ends.now c.loop-g.g.at c.loop-g.g.left
walk c =
    let a = c in
    walked a.args.s a.args.b.now (most (to_start (to_after_slice_known_1 (to_after_children_at a)))) a.requires.0 a.requires.1 (more c) c.loop-g.invariant.0

-- all numbers are small
small : (c : tie.In-loop-g invariant-loop-g decreases-loop-g)
    → let a = c.args in
    let g = c.loop-g.g in
    (g.at < length a.ends.now) × (g.at ≤ end c.before.before) × (end c.before.before ≤ a.s.nodes) × (a.s.nodes ≤ 8192) × (g.guards < a.s.nodes) ×
    (g.rows < g.at) × (g.stops ≤ g.guards) × (g.left ≤ a.s.nodes + 1) × (length c.loop-g.kept ≡ length a.kept.now) ×
    (8192 ≤ length a.kept.now) × (0 < g.left)
small c =
    let a = c in
    let i = c.loop-g.invariant in
    let w = walk c in (
      omega (arith, w.inside, a.requires.1.holds),
      omega (arith, w.next),
      w.next_within,
      a.requires.1.readable.few_nodes,
      kept_few a.args.s a.args.b.now (most (to_start (to_after_slice_known_1 (to_after_children_at a)))) a.requires.0 i.0,
      i.0.below,
      i.0.few_stops,
      left_few a.args.s a.args.b.now (most (to_start (to_after_slice_known_1 (to_after_children_at a)))) a.requires.0 a.requires.1 (more c) i.0,
      i.1,
      a.requires.2,
      more c,
    )

-- the work buffers are as long as they were
same_room : (c : tie.In-loop-g invariant-loop-g decreases-loop-g) → room c.loop-g.first c.loop-g.second ≡ most (to_start (to_after_slice_known_1 (to_after_children_at c)))
same_room c = ap₂ min c.loop-g.invariant.2 c.loop-g.invariant.3

-- the children kept and those behind the child at hand
abbrev others : tie.At-loop-g invariant-loop-g decreases-loop-g → Selection
others c =
    let g = c.loop-g.g in
    record { guards = g.guards + (g.left - 1); rows = g.rows + (c.args.s.nodes - end c); rest = end c }

without : (c : tie.In-loop-g invariant-loop-g decreases-loop-g)
    → let a = c.args in
    Tried a.s a.b.now a.ends.now (starts c.loop-g.kept c.loop-g.g) (others c.before.before)
    (room c.loop-g.first c.loop-g.second)
without c =
    let a = c in
    subst (Tried a.args.s a.args.b.now a.args.ends.now _ _) (sym (same_room c))
    (tried a.args.s a.args.b.now (most (to_start (to_after_slice_known_1 (to_after_children_at a)))) a.requires.0 a.requires.1 (more c) c.loop-g.invariant.0)

-- the first work buffer is as long after a try's rows are written
room_left : (c : tie.After-write_selection-t invariant-loop-g decreases-loop-g)
    → let l = c.loop-g in
    room c.write_selection-t.new.out l.second ≡ room l.first l.second
room_left c = ap (λ (n : ℕ). min n (length c.loop-g.second)) c.write_selection-t.auto.out

children_at-requires : tie.Need-children_at-requires invariant-loop-g decreases-loop-g
children_at-requires c κs = let h = c.requires.1.readable in (h, h.some_nodes)

loop-g-init : tie.Need-loop-g-init invariant-loop-g decreases-loop-g
loop-g-init c =
    let a = c in (
      first_turn a.args.s a.args.b.now (most (to_start (to_after_slice_known_1 a))) a.requires.0 a.args.ends.now a.args.kept.now c.children_at.ensures.0,
      refl,
      refl,
      refl,
    )

offset_bounds-ends-at : tie.Need-offset_bounds-ends-at invariant-loop-g decreases-loop-g
offset_bounds-ends-at c = omega (arith, small c)

bounds-ends-at : tie.Need-bounds-ends-at invariant-loop-g decreases-loop-g
bounds-ends-at c = (small c.before).0

overflow_cast-end : tie.Need-overflow_cast-end invariant-loop-g decreases-loop-g
overflow_cast-end c = omega (arith, small c.before)

overflow_sub-others : tie.Need-overflow_sub-others invariant-loop-g decreases-loop-g
overflow_sub-others c = omega (arith, small c.before.before)

overflow_add-others : tie.Need-overflow_add-others invariant-loop-g decreases-loop-g
overflow_add-others c = omega (arith, small c.before.before)

overflow_sub-others-in-loop-g : tie.Need-overflow_sub-others-in-loop-g invariant-loop-g decreases-loop-g
overflow_sub-others-in-loop-g c = (small c.before.before.before).2

overflow_add-others-in-loop-g : tie.Need-overflow_add-others-in-loop-g invariant-loop-g decreases-loop-g
overflow_add-others-in-loop-g c = omega (arith, small (to_in_loop_g c.before))

slice_bounds-write_selection-end : tie.Need-slice_bounds-write_selection-end invariant-loop-g decreases-loop-g
slice_bounds-write_selection-end c = omega (arith, small (to_in_loop_g c.before))

slice_bounds-write_selection-end-in-loop-g : tie.Need-slice_bounds-write_selection-end-in-loop-g invariant-loop-g decreases-loop-g
slice_bounds-write_selection-end-in-loop-g c =
    let turn = c in
    sym (length-take-le _ turn.loop-g.kept (omega (arith, small (to_in_loop_g turn.before))))

write_selection-t-requires : tie.Need-write_selection-t-requires invariant-loop-g decreases-loop-g
write_selection-t-requires c κs =
    let w = without (to_in_loop_g c.before.before) in
    (w.chosen, record { holds = omega (arith, w.has_room) })

run_raw-answer-requires : tie.Need-run_raw-answer-requires invariant-loop-g decreases-loop-g
run_raw-answer-requires c κs =
    let w = c in
    let part = w.write_selection-t in
    part_raw (without (to_in_loop_g (to_after_struct_known_in_loop_g_2_1 (to_after_write_selection_t w.before)))) part.result _ w.loop-g.second part.ensures.0 part.ensures.1
    (room_left (to_after_write_selection_t w.before))

heard-said-requires : tie.Need-heard-said-requires invariant-loop-g decreases-loop-g
heard-said-requires c κs = search rules

overflow_cast-kept : tie.Need-overflow_cast-kept invariant-loop-g decreases-loop-g
overflow_cast-kept c = omega (arith, small (to_in_loop_g (to_after_struct_known_in_loop_g_2_1 (to_after_write_selection_t (to_after_run_raw_arg_1 (to_after_first_in_loop_g_1 c.before))))))

offset_bounds-kept-count : tie.Need-offset_bounds-kept-count invariant-loop-g decreases-loop-g
offset_bounds-kept-count c = omega (arith, small (to_in_loop_g (to_after_struct_known_in_loop_g_2_1 (to_after_write_selection_t (to_after_run_raw_arg_1 (to_after_first_in_loop_g_1 c.before))))))

bounds-kept-count : tie.Need-bounds-kept-count invariant-loop-g decreases-loop-g
bounds-kept-count c = omega (arith, small (to_in_loop_g (to_after_struct_known_in_loop_g_2_1 (to_after_write_selection_t (to_after_run_raw_arg_1 (to_after_first_in_loop_g_1 c.before))))))

judge-g-requires : tie.Need-judge-g-requires invariant-loop-g decreases-loop-g
judge-g-requires c κs =
    let l = small (to_in_loop_g (to_after_struct_known_in_loop_g_2_1 (to_after_write_selection_t (to_after_run_raw_arg_1 (to_after_first_in_loop_g_1 c.before))))) in
    (l.1, l.10, omega (arith, l), omega (arith, l), omega (arith, l), omega (arith, l))

loop-g-smaller : tie.Need-loop-g-smaller invariant-loop-g decreases-loop-g
loop-g-smaller c =
    let heard = c in
    let now = heard in
    omega (
      arith,
      ap (λ (g : Sieve). g.left) c.judge-g.ensures,
      judged-left now.loop-g.g heard.heard-said.result
          (end (to_at_loop_g (to_after_shared_slice_known_in_loop_g_1
          (to_after_struct_known_in_loop_g_3_1 (to_after_first_1 (to_after_run_raw_arg_in_loop_g_1 (to_after_slice_known_in_loop_g_2_1 now.before))))))),
      more (to_in_loop_g (to_after_struct_known_in_loop_g_2_1 (to_after_write_selection_t (to_after_run_raw_arg_1 (to_after_first_in_loop_g_1 now.before.before))))),
    )

loop-g-preserved : tie.Need-loop-g-preserved invariant-loop-g decreases-loop-g
loop-g-preserved c =
    let heard = c in
    let run = heard in
    let w = run in
    let now = w in
    let l = now.loop-g in
    let a = now in
    let F = format_in a.args.s in
    let s = a.args.s in
    let b = a.args.b.now in
    let part = w.write_selection-t in
    let word = heard.heard-said in
    let said : Says word.result
    (says (fits F (most (to_start
    (to_after_slice_known_1
    (to_after_children_at (to_in_loop_g (to_after_struct_known_in_loop_g_2_1 (to_after_write_selection_t (to_after_run_raw_arg_1 (to_after_first_in_loop_g_1 a.before.before))))))))))
    (prefix_in s b) _)
    = subst₂ (λ (m : ℕ) (us : Forest). Says word.result (says (fits F m) (prefix_in s b) us))
    (same_room (to_in_loop_g (to_after_struct_known_in_loop_g_2_1 (to_after_write_selection_t (to_after_run_raw_arg_1 (to_after_first_in_loop_g_1 now.before.before))))))
    (tried_read s b (most
    (to_start (to_after_slice_known_1
    (to_after_children_at (to_in_loop_g (to_after_struct_known_in_loop_g_2_1 (to_after_write_selection_t (to_after_run_raw_arg_1 (to_after_first_in_loop_g_1 a.before.before)))))))))
    a.requires.0 a.requires.1
    (more (to_in_loop_g (to_after_struct_known_in_loop_g_2_1 (to_after_write_selection_t (to_after_run_raw_arg_1 (to_after_first_in_loop_g_1 now.before.before)))))) l.invariant.0)
    (part_said (without (to_in_loop_g (to_after_struct_known_in_loop_g_2_1 (to_after_write_selection_t (to_after_run_raw_arg_1 (to_after_first_in_loop_g_1 now.before.before)))))) part.result _
    l.second part.ensures.0 part.ensures.1 (room_left (to_after_write_selection_t (to_after_run_raw_arg_1 (to_after_first_in_loop_g_1 w.before.before)))) run.run_raw-answer.result word.ensures
    run.run_raw-answer.ensures) in (
      subst (Sifting s b (most
          (to_start (to_after_slice_known_1
          (to_after_children_at (to_in_loop_g (to_after_struct_known_in_loop_g_2_1 (to_after_write_selection_t (to_after_run_raw_arg_1 (to_after_first_in_loop_g_1 a.before.before)))))))))
          a.args.ends.now _) (sym c.judge-g.ensures)
          (next_turn s b (most (to_start
          (to_after_slice_known_1
          (to_after_children_at (to_in_loop_g (to_after_struct_known_in_loop_g_2_1 (to_after_write_selection_t (to_after_run_raw_arg_1 (to_after_first_in_loop_g_1 a.before.before)))))))))
          a.requires.0 a.requires.1
          (more (to_in_loop_g (to_after_struct_known_in_loop_g_2_1 (to_after_write_selection_t (to_after_run_raw_arg_1 (to_after_first_in_loop_g_1 now.before.before))))))
          l.invariant.0 _ refl (omega
          (arith, small (to_in_loop_g (to_after_struct_known_in_loop_g_2_1 (to_after_write_selection_t (to_after_run_raw_arg_1 (to_after_first_in_loop_g_1 now.before.before)))))))
          word.result said),
      length-set l.kept l.g.guards l.g.at ∙ l.invariant.1,
      run.run_raw-answer.auto.first ∙ part.auto.out ∙ l.invariant.2,
      run.run_raw-answer.auto.second ∙ l.invariant.3,
    )

shape_of-kept : tie.Need-shape_of-kept invariant-loop-g decreases-loop-g
shape_of-kept c = c.loop-g.invariant.1

shape_of-first : tie.Need-shape_of-first invariant-loop-g decreases-loop-g
shape_of-first c = c.loop-g.invariant.2

shape_of-second : tie.Need-shape_of-second invariant-loop-g decreases-loop-g
shape_of-second c = c.loop-g.invariant.3

returns : tie.Need-returns invariant-loop-g decreases-loop-g
returns c =
    let at = c in
    let a = at in
    last_turn a.args.s a.args.b.now (most (to_start (to_after_slice_known_1 (to_after_children_at_from_after_loop_g a)))) a.requires.0 a.requires.1.holds (omega (arith, c.loop-g-test.false))
    at.loop-g.invariant.0

pub sift_spec : {M : Type 1} → statement M
sift_spec =
    tie.close
    (tie.spec
    invariant-loop-g
    decreases-loop-g
    children_at-requires
    loop-g-init
    offset_bounds-ends-at
    bounds-ends-at
    overflow_cast-end
    overflow_sub-others
    overflow_add-others
    overflow_sub-others-in-loop-g
    overflow_add-others-in-loop-g
    slice_bounds-write_selection-end
    slice_bounds-write_selection-end-in-loop-g
    write_selection-t-requires
    run_raw-answer-requires
    heard-said-requires
    overflow_cast-kept
    offset_bounds-kept-count
    bounds-kept-count
    judge-g-requires
    loop-g-smaller
    loop-g-preserved
    shape_of-kept
    shape_of-first
    shape_of-second
    returns)
