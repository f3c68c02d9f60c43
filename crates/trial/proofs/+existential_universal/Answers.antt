-- The goals of the cycle of calls {existential, universal}. Assumes nothing.
use mathlib.Core.Path.{◌≡◌}
use mathlib.Core.Bool.{Bool, true, false}
use mathlib.Core.List.{List}
use Prim.Native.Nat.{ℕ, ◌≤◌}
use native.Mathlib.Omega.{arith}
use lib.ListN.{length, length-set}
use Rattle.formula.specs.Tree.{exists, for_all, same_op}
use Rattle.sheet.specs.Format.{Bytes}
use Rattle.rows.specs.declared.Layout.{Layout}
use Rattle.prefixes.specs.Places.{binding_in}
use Rattle.trial.specs.Inner.Turns.{TurnsReady}
use Rattle.trial.proofs.Turns.{owner, owned_by, turned_leaf, inside_both, Own, own_row, kept_one, turn_stopped, leaves-fit, turn-went-on, hands_over, next_turn}
use Rattle.trial.proofs.+existential_universal.Goals as goal

-- a row of the side that asks
module _ {s : Layout} {b : Bytes} {i x : ℕ} {table : List Bool} {high low : List ℕ} {asked : Bool} (ready : TurnsReady s b high low (length table))
    (within : i ≤ s.variables) (more : i ≡ s.variables → ⊥) (side : asked ≡ same_op exists (owner s b i)) (binds : x ≡ (binding_in s b i).variable) where
  existential_own : asked ≡ true → Own exists s b i x table
  existential_own e = own_row ready (omega (arith, within, more)) (owned_by _ side e) binds

  universal_own : asked ≡ false → Own for_all s b i x table
  universal_own e = own_row ready (omega (arith, within, more)) (owned_by _ side e) binds

-- existential turns

pub existential-returns-then-i-s : goal.existential-returns-then-i-s
existential-returns-then-i-s t c =
    turned_leaf c.args.s c.args.sheet.now c.requires.0.playable.readable c.leaf.result c.args.i c.args.assignment.now c.if-i-s.true c.leaf.ensures

pub existential-universal-requires : goal.existential-universal-requires
existential-universal-requires t c = (
  omega
      (arith, hands_over exists c.args.s c.args.sheet.now c.args.i (owned_by _ c.is_existential.ensures c.if-not-is_existential.true), c.decreases),
  c.requires,
)

pub existential-existential-zero-requires : goal.existential-existential-zero-requires
existential-existential-zero-requires t c =
    let own = existential_own c.requires.0 c.requires.1 c.if-i-s.false c.is_existential.ensures c.bound_at-x.ensures.0 c.if-not-is_existential.false in
    next_turn own c.requires.0 c.decreases (length-set c.args.assignment.now c.bound_at-x.result _)

pub existential-returns-then-stops : goal.existential-returns-then-stops
existential-returns-then-stops t c =
    let own = existential_own c.requires.0 c.requires.1 c.if-i-s.false c.is_existential.ensures c.bound_at-x.ensures.0 c.if-not-is_existential.false in
    turn_stopped own c.existential-zero.ensures c.stops.ensures c.if-stops.true

pub existential-existential-one-requires : goal.existential-existential-one-requires
existential-existential-one-requires t c =
    let own = existential_own c.requires.0 c.requires.1 c.if-i-s.false c.is_existential.ensures c.bound_at-x.ensures.0 c.if-not-is_existential.false in
    next_turn own c.requires.0 c.decreases (kept_one own c.existential-zero.ensures)

pub existential-bounds-assignment-x-4 : goal.existential-bounds-assignment-x-4
existential-bounds-assignment-x-4 t c =
    let own = existential_own c.requires.0 c.requires.1 c.if-i-s.false c.is_existential.ensures c.bound_at-x.ensures.0 c.if-not-is_existential.false in
    inside_both own c.existential-zero.ensures c.existential-one.ensures

pub existential-both-requires : goal.existential-both-requires
existential-both-requires t c =
    let own = existential_own c.requires.0 c.requires.1 c.if-i-s.false c.is_existential.ensures c.bound_at-x.ensures.0 c.if-not-is_existential.false in
    leaves-fit own c.existential-zero.ensures c.existential-one.ensures

pub existential-returns : goal.existential-returns
existential-returns t c =
    let own = existential_own c.requires.0 c.requires.1 c.if-i-s.false c.is_existential.ensures c.bound_at-x.ensures.0 c.if-not-is_existential.false in
    turn-went-on own c.existential-zero.ensures c.existential-one.ensures c.stops.ensures c.if-stops.false c.both.result c.both.ensures

-- universal turns

pub universal-returns-then-i-s : goal.universal-returns-then-i-s
universal-returns-then-i-s t c =
    turned_leaf c.args.s c.args.sheet.now c.requires.0.playable.readable c.leaf.result c.args.i c.args.assignment.now c.if-i-s.true c.leaf.ensures

pub universal-existential-requires : goal.universal-existential-requires
universal-existential-requires t c = (
  omega
      (arith, hands_over for_all c.args.s c.args.sheet.now c.args.i (owned_by _ c.is_existential.ensures c.if-is_existential.true), c.decreases),
  c.requires,
)

pub universal-universal-zero-requires : goal.universal-universal-zero-requires
universal-universal-zero-requires t c =
    let own = universal_own c.requires.0 c.requires.1 c.if-i-s.false c.is_existential.ensures c.bound_at-y.ensures.0 c.if-is_existential.false in
    next_turn own c.requires.0 c.decreases (length-set c.args.assignment.now c.bound_at-y.result _)

pub universal-returns-then-stops : goal.universal-returns-then-stops
universal-returns-then-stops t c =
    let own = universal_own c.requires.0 c.requires.1 c.if-i-s.false c.is_existential.ensures c.bound_at-y.ensures.0 c.if-is_existential.false in
    turn_stopped own c.universal-zero.ensures c.stops.ensures c.if-stops.true

pub universal-universal-one-requires : goal.universal-universal-one-requires
universal-universal-one-requires t c =
    let own = universal_own c.requires.0 c.requires.1 c.if-i-s.false c.is_existential.ensures c.bound_at-y.ensures.0 c.if-is_existential.false in
    next_turn own c.requires.0 c.decreases (kept_one own c.universal-zero.ensures)

pub universal-bounds-assignment-y-4 : goal.universal-bounds-assignment-y-4
universal-bounds-assignment-y-4 t c =
    let own = universal_own c.requires.0 c.requires.1 c.if-i-s.false c.is_existential.ensures c.bound_at-y.ensures.0 c.if-is_existential.false in
    inside_both own c.universal-zero.ensures c.universal-one.ensures

pub universal-both-requires : goal.universal-both-requires
universal-both-requires t c =
    let own = universal_own c.requires.0 c.requires.1 c.if-i-s.false c.is_existential.ensures c.bound_at-y.ensures.0 c.if-is_existential.false in
    leaves-fit own c.universal-zero.ensures c.universal-one.ensures

pub universal-returns : goal.universal-returns
universal-returns t c =
    let own = universal_own c.requires.0 c.requires.1 c.if-i-s.false c.is_existential.ensures c.bound_at-y.ensures.0 c.if-is_existential.false in
    turn-went-on own c.universal-zero.ensures c.universal-one.ensures c.stops.ensures c.if-stops.false c.both.result c.both.ensures
