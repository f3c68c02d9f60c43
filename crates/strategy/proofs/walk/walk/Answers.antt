-- `strategy::walk::walk` meets its contract. Assumes nothing.
use Rattle.std.proofs.Common.{◌≡◌, ◌∙◌, refl, sym, ap₂, subst, subst₂, min, length, Some, arith}
use mathlib.Core.Option.{some}
use Rattle.formula.specs.Tidy.{verdict}
use Rattle.formula.specs.Strategy.{winner}
use Rattle.sheet.specs.Trace.{room}
use Rattle.rows.specs.Formulas.{matrix_in}
use Rattle.solve.proofs.Holding.{readable, bound}
use Rattle.strategy.specs.Inner.Drafts.{Draftable, DraftReady}
use Rattle.strategy.specs.Inner.Walking.{TurnReady, Turned}
use Rattle.strategy.specs.declared.walk.Draft.{Draft}
use Rattle.strategy.proofs.Walking.{Walking, ends_decided, walking_first, walking_on, walking_next, walking-last, walking-shows}
use Rattle.strategy.proofs.walk.walk.Goals as goal
use Rattle.strategy.proofs.walk.walk.Goals.{At-loop-first, In-None}

-- the row that is written next, at each turn
abbrev here : At-loop-first → Draft
here c = record { exists = c.args.d.exists; to = record { layout = c.args.d.to.layout; at = c.loop-first.at } }

-- the room is that of the start
same_room : (c : At-loop-first) → room c.args.first.now c.args.second.now ≡ room c.loop-first.first c.loop-first.second
same_room c = let u = c.loop-first.invariant in ap₂ min (sym u.0.turn.same_length) (sym u.1)

-- where the next rows go
draft : (c : At-loop-first) → DraftReady c.loop-first.s.sheet c.args.d.to.layout (length c.loop-first.out) c.loop-first.at
draft c =
    let u = c.loop-first.invariant in
    let d = c.requires.draft in
    record {
      same_format = d.same_format ∙ sym u.0.turn.same_format;
      draftable = subst (Draftable c.args.d.to.layout) (sym u.2) d.draftable;
      behind = omega (arith, d.behind, u.0.drafted.next_row);
      few = omega (arith, u.0.few_rows, c.requires.few);
    }

pub loop-first-init : goal.loop-first-init
loop-first-init c =
    let a = c.args in
    (walking_first (winner a.d.exists) a.d.to.layout a.out.now a.d.to.at c.requires.run.held c.requires.run.few, refl, refl, refl)

pub take_turn-requires : goal.take_turn-requires
take_turn-requires c =
    let l = (goal.at.take_turn-requires c).At-loop-first in
    let u = c.loop-first.invariant in
    let r = c.requires.run in (
      subst (λ m. TurnReady m c.loop-first.s (here l) c.loop-first.first c.loop-first.second c.loop-first.out) (same_room l)
          (record {
            run =
                record {
                  held = u.0.turn.held;
                  first_room = omega (arith, u.0.turn.same_length, r.first_room);
                  second_room = omega (arith, u.1, r.second_room);
                  few = u.0.turn.few;
                };
            never_stops = walking_on u.0 c.requires.ends;
            draft = draft l;
          }),
      omega (arith, u.3),
    )

-- the sheet is decided, and the buffers are as they were
still : (c : In-None)
    → Walking (room c.args.first.now c.args.second.now) (winner c.args.d.exists) c.args.d.to.layout c.args.start c.loop-first.s c.args.first.now
    c.take_turn.new.first c.args.out.now c.take_turn.new.out c.args.d.to.at c.loop-first.at
still c =
    let a = c.args in
    let k = c.in-None.ensures in
    subst₂
    (λ b out. Walking (room a.first.now a.second.now) (winner a.d.exists) a.d.to.layout a.start c.loop-first.s a.first.now b
    a.out.now out a.d.to.at c.loop-first.at)
    (sym k.1) (sym k.2) c.loop-first.invariant.0

pub draft_left-requires : goal.draft_left-requires
draft_left-requires c =
    let at = goal.at.draft_left-requires c in
    let h = (still at.In-None).turn.held in (
      readable h,
      (bound h).numbered,
      subst (λ n. DraftReady c.loop-first.s.sheet c.args.d.to.layout n c.loop-first.at) (sym c.take_turn.auto.out) (draft at.At-loop-first),
    )

pub returns-in-None : goal.returns-in-None
returns-in-None c =
    let w = still (goal.at.returns-in-None c).In-None in
    let k = c.in-None.ensures in
    let e = ends_decided (room c.args.first.now c.args.second.now) c.loop-first.s c.take_turn.new.first
    (subst (λ b. verdict (matrix_in c.loop-first.s.sheet b) ≡ some k.0.0) (sym k.1) k.0.1) in
    record { drafted = walking-last w e c.draft_left.ensures; shows = walking-shows w e }

pub loop-first-preserved : goal.loop-first-preserved
loop-first-preserved c =
    let l = (goal.at.loop-first-preserved c).At-loop-first in
    let u = c.loop-first.invariant in
    let t = c.take_turn in
    let k = subst
    (λ m. Turned m c.loop-first.s (here l) c.loop-first.first t.new.first c.loop-first.out t.new.out (Some (c.in-Some.next, c.in-Some.row)))
    (sym (same_room l)) c.in-Some.ensures in
    (walking_next u.0 k.0 t.auto.first k.1 k.2, t.auto.second ∙ u.1, t.auto.out ∙ u.2, t.auto.ends ∙ u.3)
