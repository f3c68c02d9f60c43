-- `pair_tests::levels::fault_by` meets its contract.
use Rattle.std.proofs.Common.{◌≡◌, ◌+◌, ◌-◌, ◌<◌, suc, List, ℕ, refl, ap, ◌∙◌, length, get_or, add-one, arith}
use Rattle.std.proofs.Math.Seq.{slice}
use Rattle.formula.specs.Inner.Pairs.{deepest}
use Rattle.sheet.specs.Format.{Bytes}
use Rattle.rows.specs.Layouts.{rows_in}
use Rattle.rows.specs.Formulas.{prefix_in}
use Rattle.rows.specs.declared.Layout.{Layout}
use Rattle.prefixes.specs.Places.{place}
use Rattle.substitution.specs.declared.Span.{Span}
use Rattle.reduce.specs.Inner.Places.{variable_of}
use Rattle.pair_tests.specs.Pairs.{side, pairs_in, Paired}
use Rattle.pair_tests.specs.Levels.{level_by, deepest_row}
use Rattle.pair_tests.proofs.Stands.{no_pair, counted, cut_behind, is_behind_root, opened, literal-bound, literal-variable, literal-few, function-rows, function-stands}
use Rattle.pair_tests.proofs.Deepest.{deepest-rows}
use Rattle.pair_tests.proofs.Ordered.{levelling_none, fault-found, levelling-on, no_fault}
use Rattle.pair_tests.proofs.levels.fault_by.Goals as goal

-- the level is that of the pair's function, and the place is its variable's
module _ {s : Layout} (b : Bytes) {cuts : List ℕ} (k : Paired s b cuts) (i : ℕ) (h : suc i < length cuts) where
  level_is : (d : ℕ → ℕ) {n : ℕ} → n ≡ deepest_row d (slice (s.variables + get_or cuts i 0 + 2) (s.variables + get_or cuts (i + 1) 0) (rows_in s b))
      → n ≡ deepest d (get_or (pairs_in s b) i no_pair).function
  level_is d is =
      let span : Span = record { from = s.variables + get_or cuts i 0 + 2; to = s.variables + get_or cuts (i + 1) 0 } in
      let end : span.to ≡ s.variables + get_or cuts (suc i) 0 = ap (λ j. s.variables + get_or cuts j 0) (add-one i) in
      is ∙ ap (deepest_row d) (function-rows b k i h {span = span} (omega arith) end) ∙ deepest-rows d (get_or (pairs_in s b) i no_pair).function

  place_is : {r n : ℕ} → n ≡ place (variable_of s b r) (prefix_in s b) → r ≡ s.variables + (get_or cuts i 0 + 1)
      → n ≡ place (get_or (pairs_in s b) i no_pair).variable (prefix_in s b)
  place_is is e = is ∙ ap (λ x. place x (prefix_in s b)) (literal-variable b k i h e refl)

pub overflow_step-j : goal.overflow_step-j
overflow_step-j c = omega (arith, counted c.args.b.now c.requires.1)

pub loop-j-init : goal.loop-j-init
loop-j-init c =
    let a = c.args in
    levelling_none (side a.exists) (prefix_in a.s a.b.now) (pairs_in a.s a.b.now) (omega (arith, counted a.b.now c.requires.1)) c.requires.2 c.requires.3

pub deepest_in-level-requires : goal.deepest_in-level-requires
deepest_in-level-requires c =
    let a = c.args in
    let here = cut_behind a.b.now c.requires.1 c.loop-j-test.true c.loop-j.invariant.within in (
      c.requires.0,
      function-stands a.b.now c.requires.1 (c.loop-j.j - 1) here (omega arith)
          (ap (λ k. a.s.variables + get_or a.cuts.now k 0) (add-one (c.loop-j.j - 1))),
      c.loop-j.invariant.size,
    )

pub place_at-place-requires : goal.place_at-place-requires
place_at-place-requires c =
    let b = c.args.b.now in
    let here = cut_behind b c.requires.1 c.loop-j-test.true c.loop-j.invariant.within in
    (c.requires.0, literal-bound b c.requires.1 (c.loop-j.j - 1) here (omega arith))

pub argument_at-requires : goal.argument_at-requires
argument_at-requires c =
    let b = c.args.b.now in
    let here = cut_behind b c.requires.1 c.loop-j-test.true c.loop-j.invariant.within in
    (c.requires.1.readable.room, (literal-bound b c.requires.1 (c.loop-j.j - 1) here (omega arith)).inside)

pub bounds-levels-argument_at : goal.bounds-levels-argument_at
bounds-levels-argument_at c =
    let b = c.args.b.now in
    let here = cut_behind b c.requires.1 c.loop-j-test.true c.loop-j.invariant.within in
    omega (arith, literal-few b c.requires.1 (c.loop-j.j - 1) here c.requires.0.numbered c.argument_at.ensures.0 (omega arith))

pub returns-then-place-level : goal.returns-then-place-level
returns-then-place-level c =
    let a = c.args in
    let k = c.requires.1 in
    let i = c.loop-j.j - 1 in
    let q = side a.exists in
    let p = prefix_in a.s a.b.now in
    let here = cut_behind a.b.now k c.loop-j-test.true c.loop-j.invariant.within in
    let is = fault-found q p (pairs_in a.s a.b.now) c.loop-j.invariant (omega arith) (opened a.b.now k i here)
    (level_is a.b.now k i here (level_by q p c.loop-j.levels) c.deepest_in-level.ensures) (place_is a.b.now k i here c.place_at-place.ensures.0 (omega arith))
    (ap (λ (l : List ℕ). get_or l i 0) k.are_cuts) c.if-place-level.true in
    (omega (arith, is, is_behind_root a.b.now k i here), is)

pub loop-j-preserved : goal.loop-j-preserved
loop-j-preserved c =
    let a = c.args in
    let k = c.requires.1 in
    let i = c.loop-j.j - 1 in
    let q = side a.exists in
    let p = prefix_in a.s a.b.now in
    let x = c.argument_at.ensures.0 in
    let here = cut_behind a.b.now k c.loop-j-test.true c.loop-j.invariant.within in
    levelling-on q p (pairs_in a.s a.b.now) c.loop-j.invariant (omega arith) (opened a.b.now k i here)
    (level_is a.b.now k i here (level_by q p c.loop-j.levels) c.deepest_in-level.ensures) (place_is a.b.now k i here c.place_at-place.ensures.0 (omega arith))
    (literal-variable a.b.now k i here (omega arith) x) (literal-few a.b.now k i here c.requires.0.numbered x (omega arith)) (add-one _) c.if-place-level.false

pub returns : goal.returns
returns c =
    let a = c.args in
    let none = no_fault (side a.exists) (prefix_in a.s a.b.now) (pairs_in a.s a.b.now) c.loop-j.invariant c.loop-j-test.false in
    λ h. omega (arith, none, h)
